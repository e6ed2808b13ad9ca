-- `turn_steps::meet` meets its contract. Assumes nothing.
use native.Mathlib.Omega.{arith}
use Rattle.numbers.proofs.IntegerLaws.{read32}
use Rattle.turn_steps.proofs.MeetLaws.{meets_done}
use Rattle.turn_steps.proofs.meet.Goals as goal

pub returns : goal.returns
returns c = let a = c.args in
    let same = read32 c.in-Some-Secret.number (record { sfits = omega arith }) in
    meets_done a.venue.node a.venue.e a.venue.mode a.mt a.n a.room a.bytes.now a.lengths.now a.work.now c.gather.result c.gather.ensures
    c.in-Some-Secret.number c.in-Some-Secret.holders (cc) c.agreed-agreed.result (rw same at c.agreed-agreed.ensures) _ _ _
    c.then_some-outcome.result (rw same at c.then_some-outcome.ensures) c.conclude.ensures
