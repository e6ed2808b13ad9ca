-- `turn_steps::act_alone` meets its contract. Assumes nothing.
use mathlib.Core.Path.{refl, sym, ap, ◌∙◌}
use Prim.Native.Nat.{◌-◌}
use native.Mathlib.Omega.{arith}
use lib.ListN.{get_or}
use Rattle.area.specs.Rows.{row_size}
use Rattle.turn_steps.specs.Steps.{once}
use Rattle.area.proofs.RowLaws.{row_length}
use Rattle.turn_steps.proofs.AloneLaws.{taken_inside, alone_by, alone_none}
use Rattle.turn_steps.proofs.act_alone.Goals as goal

pub overflow_add-at : goal.overflow_add-at
overflow_add-at c = let a = c.args in
    omega (
      arith,
      taken_inside a.inputs.now (get_or a.at.now a.p 0) (get_or a.end.now a.p 0 - get_or a.at.now a.p 0) a.told c.next_input-input.result 1
          c.next_input-input.ensures (sym (ap once c.if-takes_input.true) ∙ c.takes_input.ensures) (omega arith),
      c.well_formed,
    )

pub returns-then-takes_input : goal.returns-then-takes_input
returns-then-takes_input c = let a = c.args in
    alone_by a.told a.t a.p a.room a.inputs.now a.end.now a.at.now a.bytes.now a.lengths.now a.work.now c.next_input-input.result 1 c.act.result _ _
    c.requires.3 c.requires.2 (c.act.auto.area ∙ row_length row_size a.p a.work.now c.requires.2) c.next_input-input.ensures
    (sym (ap once c.if-takes_input.true) ∙ c.takes_input.ensures) c.act.ensures

pub returns-else-takes_input : goal.returns-else-takes_input
returns-else-takes_input c = let a = c.args in
    alone_none a.told a.t a.p a.room a.inputs.now a.end.now a.at.now a.bytes.now a.lengths.now a.work.now c.next_input-input.result 0 c.act.result _ _
    c.requires.3 c.requires.2 (c.act.auto.area ∙ row_length row_size a.p a.work.now c.requires.2) c.next_input-input.ensures
    (sym (ap once c.if-takes_input.false) ∙ c.takes_input.ensures) c.act.ensures refl
