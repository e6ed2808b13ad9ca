-- `advance::hasten` meets its contract. Assumes nothing.
use borrow.Enum.Refused.{opened}
use mathlib.Core.Path.{refl}
use Rattle.nodes.specs.Nodes.{joint_node}
use Rattle.area.specs.Levels.{names_at}
use Rattle.advance.specs.declared.Haste.TheVariants as Haste'
use Rattle.advance.proofs.AdvanceLaws.{answers_moves, rule_let, no_meeting, hastens_at}
use Rattle.advance.proofs.hasten.Goals as goal

pub returns-in-LET : goal.returns-in-LET
returns-in-LET c = let a = c.args in
    hastens_at a.node _ a.t (Haste'.Moved _) a.w.now _ c.in-LET.is (λ view. answers_moves view _ a.t a.w.now _ _ _ (rule_let view a.t.mode (names_at a.w.now a.t.depth.frames) _ _ _) c.put_down.ensures)

pub returns-in-CALL : goal.returns-in-CALL
returns-in-CALL c = let a = c.args in hastens_at a.node _ a.t c.call.result a.w.now _ c.in-CALL.is c.call.ensures

pub returns-in-SHARE : goal.returns-in-SHARE
unfolding joint_node
returns-in-SHARE c = let a = c.args in hastens_at a.node _ a.t Haste'.Joins a.w.now a.w.now c.in-SHARE.is (tt, refl)

pub returns-in-REVEAL : goal.returns-in-REVEAL
unfolding joint_node
returns-in-REVEAL c = let a = c.args in hastens_at a.node _ a.t Haste'.Joins a.w.now a.w.now c.in-REVEAL.is (tt, refl)

pub returns-in_default : goal.returns-in_default
returns-in_default c = (no_meeting c.args.node (opened c.in_default.in_default-own.keys5), refl)
