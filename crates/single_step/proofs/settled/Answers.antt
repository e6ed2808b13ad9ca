-- `single_step::settled` meets its contract. Assumes nothing.
use mathlib.Core.Path.{sym, ◌∙◌}
use Rattle.single_step.proofs.StepLaws.{settled_refusal, settled_by, settled_not}
use Rattle.single_step.proofs.settled.Goals as goal

pub returns-then-room_for_all : goal.returns-then-room_for_all
returns-then-room_for_all c =
    let a = c.args in
    rw c.in-Ok.is (settled_by a.room a.n _ _ a.t a.bytes.now a.lengths.now a.work.now _ _ _ _ _ _ (sym c.room_for_all.ensures ∙ c.if-room_for_all.true) c.note_all.ensures c.hand_back.ensures)

pub returns-in-Err : goal.returns-in-Err
returns-in-Err c =
    let a = c.args in
    rw c.in-Err.is (settled_refusal a.room a.n a.t a.bytes.now a.lengths.now a.work.now _)

pub returns-else-room_for_all : goal.returns-else-room_for_all
returns-else-room_for_all c =
    let a = c.args in
    rw c.in-Ok.is (settled_not a.room a.n _ _ a.t a.bytes.now a.lengths.now a.work.now (sym c.room_for_all.ensures ∙ c.if-room_for_all.false))
