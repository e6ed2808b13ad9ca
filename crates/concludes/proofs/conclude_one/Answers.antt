-- `concludes::conclude_one` meets its contract. Assumes nothing.
use borrow.Enum.Refused.{opened}
use mathlib.Core.Path.{◌∙◌}
use native.Mathlib.Omega.{arith}
use Rattle.area.specs.Rows.{row_size}
use Rattle.area.proofs.RowLaws.{row_length}
use Rattle.concludes.proofs.ConcludeLaws.{member_over, member_runs}
use Rattle.concludes.proofs.conclude_one.Goals as goal

pub returns-in_default : goal.returns-in_default
returns-in_default c = let a = c.args in
    member_over a.outcome a.p a.room a.bytes.now a.lengths.now a.work.now c.load_seat.result c.load_seat.ensures (opened c.in_default.in_default-own.keys2)

pub take_part-requires : goal.take_part-requires
take_part-requires c = let a = c.args in omega (arith, row_length row_size a.p a.work.now c.requires.2)

pub returns : goal.returns
returns c = let a = c.args in
    member_runs a.outcome a.p a.room a.bytes.now a.lengths.now a.work.now c.load_seat.result c.load_seat.ensures _ c.in-Running.is c.take_part.result _ _
    (c.take_part.auto.area ∙ row_length row_size a.p a.work.now c.requires.2) c.requires.2 c.take_part.ensures
