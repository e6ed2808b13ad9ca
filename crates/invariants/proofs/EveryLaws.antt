-- What is so of every item of a list is so of each item, of its parts, and of the list with an item changed. Assumes nothing.
use mathlib.Core.List.{List, [], ◌∷◌}
use Prim.Native.Nat.{ℕ, zero, suc}
use lib.ListN.{get_or, take, drop, set, replicate}
use Rattle.invariants.specs.InRange.{Every}

module _ {A : Type 0} (F : A → Type 0) where
  pub every_at : (xs : List A) (i : ℕ) (d : A) → Every F xs → F d → F (get_or xs i d)
  every_at [] i d e g = g
  every_at (x ∷ xs) zero d e g = e.0
  every_at (x ∷ xs) (suc i) d e g = every_at xs i d e.1 g

  pub every_set : (xs : List A) (i : ℕ) (a : A) → Every F xs → F a → Every F (set xs i a)
  every_set [] i a e g = tt
  every_set (x ∷ xs) zero a e g = (g, e.1)
  every_set (x ∷ xs) (suc i) a e g = (e.0, every_set xs i a e.1 g)

  pub every_take : (n : ℕ) (xs : List A) → Every F xs → Every F (take n xs)
  every_take zero xs e = tt
  every_take (suc n) [] e = tt
  every_take (suc n) (x ∷ xs) e = (e.0, every_take n xs e.1)

  pub every_drop : (n : ℕ) (xs : List A) → Every F xs → Every F (drop n xs)
  every_drop zero xs e = e
  every_drop (suc n) [] e = tt
  every_drop (suc n) (x ∷ xs) e = every_drop n xs e.1

  pub every_replicate : (n : ℕ) (a : A) → F a → Every F (replicate n a)
  every_replicate zero a g = tt
  every_replicate (suc n) a g = (g, every_replicate n a g)
