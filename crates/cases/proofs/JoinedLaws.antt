-- Values that were written one after the other, each in as many bytes, are read back as a row. Assumes nothing.
use mathlib.Core.Path.{◌≡◌, refl, sym, ap, ◌∙◌}
use mathlib.Core.List.{List, [], ◌∷◌, ◌++◌, append_assoc}
use Prim.Native.Nat.{ℕ, zero, suc, ◌+◌, ◌*◌}
use native.Mathlib.Nat.{add-zero, mul-zero, mul-suc}
use native.Mathlib.Omega.{arith}
use lib.ListN.{length, length-append}
use Rattle.cases.specs.Rows.{row}
use Rattle.cases.specs.Written.{joined, All, more}

module _ {A : Type 0} where
  row_same : (k : ℕ) (f g : ℕ → A) → ((i : ℕ) → f i ≡ g i) → row k f ≡ row k g
  unfolding row
  row_same zero f g e = refl
  row_same (suc k) f g e = rw (row_same k f g e, e k)

  row_cons : (k : ℕ) (f : ℕ → A) → row (suc k) f ≡ f 0 ∷ row k (λ i. f (suc i))
  unfolding row
  row_cons zero f = refl
  row_cons (suc k) f = ap (λ (r : List A). r ++ (f (suc k) ∷ [])) (row_cons k f)

  pub joined_length : (w : ℕ) (bytes : A → List ℕ) → ((x : A) → length (bytes x) ≡ w) → (xs : List A) → length (joined bytes xs) ≡ w * length xs
  unfolding joined
  joined_length w bytes size [] = sym (mul-zero w)
  joined_length w bytes size (x ∷ xs) = length-append (bytes x) (joined bytes xs) ∙ omega (arith, size x, joined_length w bytes size xs, mul-suc w (length xs))

  -- values whose bytes are w in number, and are read back wherever they stand
  module _ (w : ℕ) (P : A → Type 0) (bytes : A → List ℕ) (at : List ℕ → ℕ → A) (size : (x : A) → length (bytes x) ≡ w)
      (back : (x : A) (before after : List ℕ) → P x → at (before ++ (bytes x ++ after)) (length before) ≡ x) where
    pub row_in : (xs : List A) (before after : List ℕ) → All P xs → row (length xs) (λ i. at (before ++ (joined bytes xs ++ after)) (length before + w * i)) ≡ xs
    unfolding joined row
    row_in [] before after a = refl
    row_in (x ∷ xs) before after (more p a) =
        row_cons (length xs) f ∙ ap (λ (y : A). y ∷ row (length xs) (λ i. f (suc i))) first
        ∙ ap (λ (r : List A). x ∷ r) (row_same (length xs) (λ i. f (suc i)) _ step ∙ row_in xs (before ++ bytes x) after a)
      where
        bs : List ℕ
        bs = before ++ ((bytes x ++ joined bytes xs) ++ after)

        f : ℕ → A
        f i = at bs (length before + w * i)

        first : f 0 ≡ x
        first = rw (append_assoc (bytes x) (joined bytes xs) after, mul-zero w, add-zero (length before)) (back x before (joined bytes xs ++ after) p)

        same : (before ++ bytes x) ++ (joined bytes xs ++ after) ≡ bs
        same = simp append_assoc

        step : (i : ℕ) → f (suc i) ≡ at ((before ++ bytes x) ++ (joined bytes xs ++ after)) (length (before ++ bytes x) + w * i)
        step i =
            let m : length before + w * suc i ≡ length (before ++ bytes x) + w * i = omega (arith, length-append before (bytes x), size x, mul-suc w i) in
            rw (same, m)
