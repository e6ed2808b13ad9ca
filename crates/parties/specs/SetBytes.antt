-- "A party set is two bytes, bit i for party i." (document 01, "Program bytes")
use Rattle.std.specs.Prelude.{ℕ, List}
use Rattle.words.specs.Words.{low_first, number_at}
use Rattle.parties.specs.declared.sets.PartySet.{PartySet}

abbrev pub set_bytes : PartySet → List ℕ
set_bytes s = low_first 2 s.bits

-- the set whose bytes stand at i
abbrev pub set_at : List ℕ → ℕ → PartySet
set_at xs i = record { bits = number_at 2 xs i }
