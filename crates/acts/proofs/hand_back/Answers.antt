-- `acts::hand_back` meets its contract. Assumes nothing.
use Rattle.acts.proofs.ActLaws.{moves}
use Rattle.rules.specs.declared.effects.Move.TheVariants.{Hand}
use Rattle.advance.proofs.AdvanceLaws.{hands}
use Rattle.acts.proofs.hand_back.Goals as goal

pub returns : goal.returns
returns c = let a = c.args in moves (Hand a.v) a.t a.used a.bytes.now a.area.now _ c.hand_back-next.result c.land.result _ _ (hands a.v a.t _ a.area.now _ c.hand_back-next.ensures) c.land.ensures
