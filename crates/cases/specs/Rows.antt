-- Numbers of one width that stand one after the other.
use Rattle.std.specs.Prelude.{ℕ, zero, suc, ◌+◌, ◌*◌, List, [], ◌∷◌, ◌++◌, ℤ}
unfoldable pub use Rattle.numbers.specs.Sums.{sum}
use Rattle.words.specs.Words.{number_at, integer_at}

-- f 0, f 1 and so on, k of them
unfoldable pub row : {A : Type 0} → ℕ → (ℕ → A) → List A
row zero f = []
row (suc k) f = row k f ++ (f k ∷ [])

-- k numbers of `width` bytes each, from `at` on
unfoldable pub numbers_at : (width k : ℕ) → List ℕ → (at : ℕ) → List ℕ
numbers_at width k bs at = row k (λ i. number_at width bs (at + width * i))

-- k integers, of four bytes each
unfoldable pub integers_at : (k : ℕ) → List ℕ → (at : ℕ) → List ℤ
integers_at k bs at = row k (λ i. integer_at bs (at + 4 * i))
