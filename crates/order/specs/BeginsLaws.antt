-- A record begins another just where the other is it and something more. Assumes nothing.
use Rattle.std.specs.Prelude.{◌≡◌, refl, Bool, true, false, cond, List, [], ◌∷◌, ◌++◌, ℕ, ◌≤◌, eqb, length, drop}
use Rattle.std.proofs.Common.{ap, arith, length-append, eq-eqb, eqb-true}
use Rattle.std.proofs.lemmas.Bool.{false≢true}
use Rattle.order.specs.Order.{begins}

pub begins_append : (xs zs : List ℕ) → begins xs (xs ++ zs) ≡ true
unfolding begins
begins_append [] zs = refl
begins_append (x ∷ xs) zs = rw (eq-eqb x x refl) (begins_append xs zs)

pub begins_rest : (xs ys : List ℕ) → begins xs ys ≡ true → ys ≡ xs ++ drop (length xs) ys
unfolding begins
begins_rest [] ys h = refl
begins_rest (x ∷ xs) [] h = absurd (false≢true h)
begins_rest (x ∷ xs) (y ∷ ys) h = go (eqb x y) refl (begins_rest xs ys) h
  where
    go : (t : Bool) → eqb x y ≡ t → (begins xs ys ≡ true → ys ≡ xs ++ drop (length xs) ys) → cond t (begins xs ys) false ≡ true
        → y ∷ ys ≡ x ∷ (xs ++ drop (length xs) ys)
    go true e f h = let q : x ≡ y = eqb-true x y e in let r = f h in cc
    go false e f h = absurd (false≢true h)

pub begins_le : (xs ys : List ℕ) → begins xs ys ≡ true → length xs ≤ length ys
begins_le xs ys h = omega (arith, simp length-append at (ap length (begins_rest xs ys h)))
