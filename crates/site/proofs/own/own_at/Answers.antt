-- `site::own::own_at` meets its contract. Assumes nothing.
use Rattle.site.proofs.OwnLaws.{owns}
use Rattle.site.proofs.own.own_at.Goals as goal

pub returns : goal.returns
returns c = let a = c.args in owns a.p a.t a.room a.used a.area.now a.node c.joint_effect-effect.result c.weighed.result c.joint_effect-effect.ensures c.weighed.ensures
