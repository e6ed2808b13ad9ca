-- The parties' inputs as they lie in the lent list.
use Rattle.std.specs.Prelude.{◌≡◌, ℕ, ◌+◌, ◌-◌, ◌≤◌, ◌<◌, List, [], ◌∷◌, ℤ, length, get_or, take, drop, Option, Some, None}
use Rattle.rules.specs.Books.{Books}
use Rattle.rules.specs.Lent.{sum}

-- party P's inputs start where those of the parties before it end, and are as many as its count says; places past the counts stay
pub record Divided (counts at₀ end₀ at end : List ℕ) : Type 0 where
  pub starts : (P : ℕ) → P < length counts → get_or at P 0 ≡ sum (take P counts)
  pub ends : (P : ℕ) → P < length counts → get_or end P 0 ≡ sum (take P counts) + get_or counts P 0
  pub rest : (P : ℕ) → length counts ≤ P → (get_or at P 0 ≡ get_or at₀ P 0) × (get_or end P 0 ≡ get_or end₀ P 0)

-- the books of n parties have the inputs from `at` on, up to `end`
abbrev pub InputsHold : ℕ → List ℤ → (at end : List ℕ) → Books → Type 0
InputsHold n is at end b = (P : ℕ) → P < n → (b P).inputs ≡ take (get_or end P 0 - get_or at P 0) (drop (get_or at P 0) is)

-- the first of some inputs, if there is one
abbrev pub head_of : List ℤ → Option ℤ
head_of [] = None
head_of (i ∷ is) = Some i
