-- `advance::once` meets its contract. Assumes nothing.
use Rattle.advance.proofs.AdvanceLaws.{once_moved, once_joins, once_left, once_ruled}
use Rattle.advance.proofs.once.Goals as goal

pub by_rule-requires : goal.by_rule-requires
by_rule-requires c = let a = c.args in
    let left = once_left a.view a.program.now a.nodes a.t a.w.now c.node-node.result c.node-node.ensures c.hasten.result _ c.hasten.ensures c.in-None.is in
    (rw left.1 c.requires.0, left.0)

pub returns-in-Moved : goal.returns-in-Moved
returns-in-Moved c = let a = c.args in once_moved a.view a.program.now a.nodes a.t a.w.now c.node-node.result c.node-node.ensures c.hasten.result _ c.hasten.ensures _ c.in-Moved.is

pub returns-in-Joins : goal.returns-in-Joins
returns-in-Joins c = let a = c.args in once_joins a.view a.program.now a.nodes a.t a.w.now c.node-node.result c.node-node.ensures c.hasten.result _ c.hasten.ensures c.in-Joins.is

pub returns-in-None : goal.returns-in-None
returns-in-None c = let a = c.args in once_ruled a.view a.program.now a.nodes a.t a.w.now c.node-node.result c.node-node.ensures c.hasten.result _ c.hasten.ensures c.in-None.is _ _ c.by_rule.ensures
