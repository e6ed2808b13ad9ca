-- `concludes::take_part` meets its contract. Assumes nothing.
use native.Mathlib.Omega.{arith}
use Rattle.numbers.proofs.IntegerLaws.{read32}
use Rattle.concludes.proofs.ConcludeLaws.{parts_with, joins_in}
use Rattle.concludes.proofs.take_part.Goals as goal

pub returns-in-Some : goal.returns-in-Some
returns-in-Some c = let a = c.args in
    joins_in a.outcome a.t a.p a.used a.bytes.now a.area.now c.join.result _ _ c.in-Some.joined c.in-Some.is (rw (read32 c.in-Some.joined.number (record { sfits = omega arith })) at c.join.ensures)

pub returns-in-None : goal.returns-in-None
returns-in-None c = let a = c.args in parts_with a.outcome a.t a.p a.used a.bytes.now a.area.now c.stop.result _ _ c.in-None.is (rw c.from.ensures at c.stop.ensures)
