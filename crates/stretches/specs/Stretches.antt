-- Stretches of a list of bytes.
use Rattle.std.specs.Prelude.{ℕ, ◌+◌, ◌≤◌, List, ◌⊎◌, take, drop}
use Rattle.std.proofs.lemmas.List.Edits.{sets}

-- the n bytes of xs from a on
abbrev pub stretch : ℕ → ℕ → List ℕ → List ℕ
stretch a n xs = take n (drop a xs)

-- xs with its n bytes from `from` on written over those from `to` on
unfoldable pub copied : List ℕ → ℕ → ℕ → ℕ → List ℕ
copied xs from to n = sets xs to (stretch from n xs)

-- two stretches of n bytes that have none in common
abbrev pub Apart : ℕ → ℕ → ℕ → Type 0
Apart from to n = (from + n ≤ to) ⊎ (to + n ≤ from)
