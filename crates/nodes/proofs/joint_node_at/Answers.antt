-- `nodes::joint_node_at` meets its contract. Assumes nothing.
use mathlib.Core.Path.{refl, ap, ◌∙◌}
use Rattle.nodes.specs.Nodes.{joint_node}
use Rattle.nodes.proofs.ReadLaws.{kind_is, share_in, reveal_in, other_neither}
use Rattle.nodes.proofs.joint_node_at.Goals as goal

pub returns-in-8 : goal.returns-in-8
unfolding joint_node
returns-in-8 c =
    rw (c.octet-in-8.ensures, c.set_of.ensures, c.name_of.ensures)
    (ap joint_node (share_in _ _ _ c.window-w.ensures c.octet.ensures c.in-8.is))

pub returns-in-9 : goal.returns-in-9
unfolding joint_node
returns-in-9 c =
    rw (c.set_of-in-9.ensures, c.name_of-in-9.ensures)
    (ap joint_node (reveal_in _ _ _ c.window-w.ensures c.octet.ensures c.in-9.is))

pub returns-in_default : goal.returns-in_default
returns-in_default c = other_neither _ _ c.in_default.in_default-own.rest ∙ ap joint_node (kind_is _ _ _ c.window-w.ensures c.octet.ensures _ refl)
