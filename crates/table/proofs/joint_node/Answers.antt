-- `table::joint_node` meets its contract. Assumes nothing.
use mathlib.Core.Path.{ap, ◌∙◌}
use native.Mathlib.Omega.{arith}
use Rattle.nodes.specs.Nodes.{joint_node}
use Rattle.table.proofs.TableLaws.{at_its_place, past_the_last}
use Rattle.table.proofs.joint_node.Goals as goal

pub returns-then-nodes-own : goal.returns-then-nodes-own
unfolding joint_node
returns-then-nodes-own c = let a = c.args in
    ap joint_node (past_the_last a.program.now a.nodes a.w.now a.k (omega arith))

pub returns : goal.returns
returns c = c.joint_node_at.ensures ∙ ap joint_node (at_its_place _ _ _ _ c.if-nodes-own.false c.place_of.ensures.0)
