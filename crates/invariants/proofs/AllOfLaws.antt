-- When all members below a number pass a test: of none, of one more, where one fails, what it says of each, and what makes it so. Assumes nothing.
use mathlib.Core.Path.{◌≡◌, refl, sym, ◌∙◌}
use mathlib.Core.Bool.{Bool, true, false, not, ◌&&◌, ◌||◌, and-false}
use Prim.Native.Nat.{ℕ, zero, suc, ◌+◌, ◌<◌}
use native.Mathlib.Decide.{dec_lt}
use native.Mathlib.Numerals.{add-one}
use native.Mathlib.Omega.{arith}
use Rattle.parties.specs.Sets.{member}
use Rattle.parties.specs.declared.sets.PartySet.{PartySet}
use Rattle.rules.specs.Single.{all_of}

module _ (m : PartySet) (f : ℕ → Bool) where
  -- P is no member of m, or passes the test
  abbrev pub passes : ℕ → Bool
  passes P = not (member P m) || f P

  pub all_none : all_of 0 m f ≡ true
  unfolding all_of
  all_none = refl

  pub all_more : (P : ℕ) → all_of P m f ≡ true → passes P ≡ true → all_of (P + 1) m f ≡ true
  unfolding all_of
  all_more P a h = rw (add-one, h, a)

  pub all_lack : (n P : ℕ) → P < n → passes P ≡ false → false ≡ all_of n m f
  unfolding all_of
  all_lack zero P h q = absurd (let z : P < 0 = h in omega arith)
  all_lack (suc k) P h q =
      elim (dec_lt P k) [
        | yes l ↦ rw (← all_lack k P l q) (sym (and-false (passes k)))
        | no l ↦
            let s : k ≡ P = omega arith in
            rw (s, q)
      ]

  pub all_each : (n P : ℕ) → P < n → all_of n m f ≡ true → passes P ≡ true
  all_each n P h a = go (passes P) refl
    where
      go : (t : Bool) → passes P ≡ t → t ≡ true
      go true q = refl
      go false q = all_lack n P h q ∙ a

  -- each member passes the test
  pub all_member : (n : ℕ) → all_of n m f ≡ true → (P : ℕ) → P < n → member P m ≡ true → f P ≡ true
  all_member n a P h i = rw i at (all_each n P h a)

  -- all pass where each member does
  pub all_by : (n : ℕ) → ((P : ℕ) → P < n → member P m ≡ true → f P ≡ true) → all_of n m f ≡ true
  unfolding all_of
  all_by zero h = refl
  all_by (suc k) h = go (member k m) refl (all_by k (λ P l i. h P (omega arith) i))
    where
      go : (t : Bool) → member k m ≡ t → all_of k m f ≡ true → ((not t || f k) && all_of k m f) ≡ true
      go true i a = rw (h k (omega arith) i, a)
      go false i a = a
