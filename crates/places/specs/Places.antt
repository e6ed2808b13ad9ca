-- Where the nodes of a program start, read off its kind bytes alone, and the table of these places.
use Rattle.std.specs.Prelude.{ℕ, zero, suc, ◌+◌, ◌*◌, ◌<◌, ◌≡◌, List, get_or, drop, Option, Some, None}
use Rattle.words.specs.Words.{number_at}
use Rattle.program.specs.Kinds.{body_of}
use Rattle.program.specs.declared.kinds.Rule.{Rule}

abbrev pub length_of : Option (ℕ × Rule) → ℕ
length_of (Some (l, r)) = l
length_of None = 0

-- where the record after the one at a place starts
unfoldable pub next_at : List ℕ → ℕ → ℕ
next_at p at = at + 1 + length_of (body_of (get_or p at 0))

-- where the node numbered k starts
unfoldable pub place_of : List ℕ → ℕ → ℕ
place_of p zero = 2
place_of p (suc k) = next_at p (place_of p k)

-- the table of the first k places, two bytes each, written over the head of some bytes
pub record Tabled (p : List ℕ) (k : ℕ) (before after : List ℕ) : Type 0 where
  pub places : (j : ℕ) → j < k → number_at 2 after (2 * j) ≡ place_of p j
  pub rest : drop (2 * k) after ≡ drop (2 * k) before
