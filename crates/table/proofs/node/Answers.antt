-- `table::node` meets its contract. Assumes nothing.
use mathlib.Core.Path.{◌∙◌}
use Rattle.table.proofs.TableLaws.{at_its_place, past_the_last}
use Rattle.table.proofs.node.Goals as goal

pub returns-then-own-nodes : goal.returns-then-own-nodes
returns-then-own-nodes c = c.node_at.ensures ∙ at_its_place _ _ _ _ c.if-own-nodes.true c.load2.ensures

pub returns-else-own-nodes : goal.returns-else-own-nodes
returns-else-own-nodes c = past_the_last _ _ _ _ c.if-own-nodes.false
