-- What the contracts of the counts cite.
use Rattle.std.specs.Prelude.{◌≡◌, ℕ, ◌≤◌, List, length, take, Option}
use Rattle.std.specs.Io.KnownBytes.{Consumes}

-- `&xs[..n]` is in bounds and has n bytes
abbrev pub IsPrefixLen : ℕ → List ℕ → Type 0
IsPrefixLen n xs = (n ≤ length xs) × (n ≡ length (take n xs))

-- what a read that failed leaves: what came before it stands at the start of the slice, and the reader has lost just that
abbrev pub CutShort : Option (List ℕ) → Option (List ℕ) → List ℕ → Type 0
CutShort before after xs = (n : ℕ) × (n ≤ length xs) × Consumes before after (take n xs)
