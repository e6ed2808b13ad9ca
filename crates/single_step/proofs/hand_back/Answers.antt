-- `single_step::hand_back` meets its contract. Assumes nothing.
use Rattle.advance.proofs.AdvanceLaws.{hands}
use Rattle.rules.specs.declared.effects.Move.TheVariants.{Hand}
use Rattle.single_step.proofs.StepLaws.{moved_by}
use Rattle.single_step.proofs.hand_back.Goals as goal

pub returns : goal.returns
returns c = let a = c.args in
    moved_by a.room a.n (Hand a.v) a.t _ _ a.bytes.now a.lengths.now a.work.now _ _ _ (hands a.v a.t _ a.work.now _ c.hand_back-next.ensures) c.arrive.ensures
