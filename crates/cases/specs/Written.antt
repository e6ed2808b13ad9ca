-- A case as `rehearse` is given it, field by field, and which cases can be written so.
use Rattle.std.specs.Prelude.{◌≡◌, List, [], ◌∷◌, ◌++◌, ℕ, ◌^◌, ◌≤◌, ◌<◌, length}
use Rattle.std.specs.Int.{w32}
use Rattle.std.proofs.Common.{SFits}
use Rattle.words.specs.Words.{low_first, integer_bytes}
use Rattle.cases.specs.Rows.{sum}
use Rattle.cases.specs.Input.{Case, max_input}

-- the bytes of each value, one after the other
unfoldable pub joined : {A : Type 0} → (A → List ℕ) → List A → List ℕ
joined f [] = []
joined f (x ∷ xs) = f x ++ joined f xs

-- "program length (2), program, k (1), k input counts (2 each), the inputs (4 each), budget (4), turn count (2), turns"
unfoldable pub input_bytes : Case → List ℕ
input_bytes c =
    low_first 2 (length c.program)
    ++ (c.program
    ++ ((length c.counts ∷ [])
    ++ (joined (low_first 2) c.counts
    ++ (joined integer_bytes c.inputs
    ++ (low_first 4 c.budget
    ++ (low_first 2 (length c.turns)
    ++ c.turns))))))

-- a property of every value of a list
pub data All {A : Type 0} (P : A → Type 0) : List A → Type 0 where
  none : All P []
  more : {x : A} {xs : List A} → P x → All P xs → All P (x ∷ xs)

-- a case that can be written: its numbers fit their fields, its counts sum to the number of its inputs, and it is not too long
pub record Writable (c : Case) : Type 0 where
  pub many : length c.counts < 256
  pub counts : All (λ (n : ℕ). n < 256 ^ 2) c.counts
  pub inputs : All (SFits w32) c.inputs
  pub total : sum c.counts ≡ length c.inputs
  pub budget : c.budget < 256 ^ 4
  pub short : length (input_bytes c) ≤ max_input
