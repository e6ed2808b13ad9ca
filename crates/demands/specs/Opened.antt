-- The words of "what was opened to a site": the values opened, a record that ends in refusal 11, and two lists that agree.
use Rattle.std.specs.Prelude.{ℕ, ◌≡◌, List, [], ◌∷◌, ◌++◌, ◌⊎◌, ℤ}
use Rattle.refusals.specs.Numbers.{disagreement}
use Rattle.records.specs.declared.events.Event.{Event}
use Rattle.records.specs.declared.events.Event.TheVariants.{Read, Wrote, Shared, Opened, Passed, Finished, Stopped}
use Rattle.invariants.specs.Begins.{Begins}

-- the values opened to a site are the integers of its kind 4, in order
abbrev pub opened_of : Event → List ℤ
opened_of (Read i) = []
opened_of (Wrote i) = []
opened_of (Shared a q) = []
opened_of (Opened q i) = i ∷ []
opened_of (Passed q) = []
opened_of (Finished tag i l h) = []
opened_of (Stopped refusal node) = []

abbrev pub openings : List Event → List ℤ
openings [] = []
openings (e ∷ es) = opened_of e ++ openings es

-- the last event is a stop with 11
pub record EndsIn11 (es : List Event) : Type 0 where
  pub before : List Event
  pub node : ℕ
  pub is : es ≡ before ++ Stopped disagreement node ∷ []

-- two lists are the same as far as both go: one begins the other
abbrev pub Agree : {A : Type 0} → List A → List A → Type 0
Agree xs ys = Begins xs ys ⊎ Begins ys xs
