-- `advance::by_rule` meets its contract. Assumes nothing.
use borrow.Enum.Refused.{opened}
use mathlib.Core.Path.{sym, ◌∙◌}
use Rattle.advance.proofs.AdvanceLaws.{asked_left, answers_asks, answers_moves}
use Rattle.advance.proofs.by_rule.Goals as goal

pub returns-in_default : goal.returns-in_default
returns-in_default c = let a = c.args in
    answers_asks a.view a.node a.t a.w.now _ c.effect-effect.ensures (asked_left c.effect-effect.result (opened c.in_default.in_default-own.keys2)) c.requires.1

pub returns : goal.returns
returns c = let a = c.args in
    answers_moves a.view a.node a.t a.w.now _ _ _ (sym c.in-Goes.is ∙ c.effect-effect.ensures) c.go.ensures
