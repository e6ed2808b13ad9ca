-- `advance::call` meets its contract. Assumes nothing.
use mathlib.Core.Path.{refl, sym, ◌∙◌}
use Rattle.nodes.specs.Nodes.{joint_node}
use Rattle.area.specs.Levels.{names_at}
use Rattle.advance.proofs.AdvanceLaws.{answers_moves, rule_call}
use Rattle.advance.proofs.call.Goals as goal

pub returns-in_default : goal.returns-in_default
unfolding joint_node
returns-in_default c = (refl, refl)

pub returns : goal.returns
returns c = let a = c.args in
    λ view. answers_moves view _ a.t a.w.now _ _ _ (rule_call view a.t.mode (names_at a.w.now a.t.depth.frames) a.f a.x _ (sym c.in-Ok.is ∙ c.seek.ensures)) c.call.ensures
