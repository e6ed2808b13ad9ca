-- The length of a row of values, and the sum of a row of numbers. Assumes nothing.
use mathlib.Core.Path.{◌≡◌, refl, ◌∙◌}
use mathlib.Core.List.{List, [], ◌∷◌, ◌++◌}
use Prim.Native.Nat.{ℕ, zero, suc, ◌+◌, ◌*◌}
use native.Mathlib.Numerals.{add-one}
use native.Mathlib.Omega.{arith}
use lib.ListN.{length, length-append}
use Rattle.words.specs.Words.{number_at}
use Rattle.cases.specs.Rows.{row, numbers_at, sum}

pub row_length : {A : Type 0} (f : ℕ → A) (k : ℕ) → length (row k f) ≡ k
unfolding row
row_length f zero = refl
row_length f (suc k) = length-append (row k f) (f k ∷ []) ∙ omega (arith, row_length f k)

-- ---- the sum of the first k numbers
sum_snoc : (ns : List ℕ) (n : ℕ) → sum (ns ++ (n ∷ [])) ≡ sum ns + n
unfolding sum
sum_snoc [] n = omega arith
sum_snoc (m ∷ ns) n = omega (arith, sum_snoc ns n)

pub sum_none : (w : ℕ) (bs : List ℕ) (at : ℕ) → sum (numbers_at w 0 bs at) ≡ 0
unfolding sum numbers_at row
sum_none w bs at = refl

pub sum_more : (w k : ℕ) (bs : List ℕ) (at : ℕ) → sum (numbers_at w (k + 1) bs at) ≡ sum (numbers_at w k bs at) + number_at w bs (at + w * k)
unfolding numbers_at row
sum_more w k bs at = rw (add-one k) (sum_snoc (row k (λ i. number_at w bs (at + w * i))) (number_at w bs (at + w * k)))
