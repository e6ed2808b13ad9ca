-- `reader::place_after` meets its contract. Assumes nothing.
use mathlib.Core.Path.{◌≡◌, sym, ap, ◌∙◌}
use mathlib.Core.List.{List}
use Prim.Native.Nat.{ℕ}
use Rattle.walk.specs.Walk.{StepAnswer, told, step_answer}
use Rattle.reader.specs.Next.{place_next, place_after}
use Rattle.reader.proofs.place_after.Goals as goal

-- Assumes nothing.

-- the place after an answer that is the record's
after : (xs : List ℕ) (place : ℕ) (answer : StepAnswer) → answer ≡ step_answer xs place → place_next answer place ≡ place_after xs place
unfolding place_after
after xs place answer e = ap (λ (a : StepAnswer). place_next a place) e

pub returns-in-Event : goal.returns-in-Event
returns-in-Event c = after _ _ _ (ap told (sym c.in-Event.is) ∙ c.step_at.ensures)

pub returns-in-End : goal.returns-in-End
returns-in-End c = after _ _ _ (ap told (sym c.in-End.is) ∙ c.step_at.ensures)

pub returns-in-Bad : goal.returns-in-Bad
returns-in-Bad c = after _ _ _ (ap told (sym c.in-Bad.is) ∙ c.step_at.ensures)
