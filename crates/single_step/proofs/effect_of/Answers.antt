-- `single_step::effect_of` meets its contract. Assumes nothing.
use Rattle.single_step.proofs.EffectLaws.{effect_asks, effect_joins}
use Rattle.single_step.proofs.effect_of.Goals as goal

pub returns-in-Asks : goal.returns-in-Asks
returns-in-Asks c = let a = c.args in effect_asks a.program.now a.nodes a.advanced a.t a.w.now _ c.in-Asks.is

pub returns-in-Joins : goal.returns-in-Joins
returns-in-Joins c = let a = c.args in effect_joins a.program.now a.nodes a.advanced a.t a.w.now _ _ c.in-Joins.is c.joint_node-node.ensures c.joint_effect.ensures
