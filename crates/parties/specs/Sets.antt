-- Party sets: "A party set is two bytes, bit i for party i" (document 01, "Program bytes").
use Rattle.std.specs.Prelude.{◌≡◌, ℕ, zero, suc, ◌+◌, ◌-◌, ◌/◌, ◌%◌, ◌^◌, Bool, true, false, cond, eqb, ltb, Option, MatchOption}
use Rattle.std.specs.Int.Bits.{bit_and, bit_or}
use Rattle.limits.specs.Limits.{max_parties}
use Rattle.parties.specs.declared.sets.PartySet.{PartySet}

-- bit i of a number
abbrev pub bit : ℕ → ℕ → ℕ
bit i n = n / 2 ^ i % 2

-- party i is in s
unfoldable pub member : ℕ → PartySet → Bool
member i s = eqb (bit i s.bits) 1

-- the parties in both; the parties in either
unfoldable pub meet : PartySet → PartySet → PartySet
meet s t = record { bits = bit_and s.bits t.bits }

unfoldable pub join : PartySet → PartySet → PartySet
join s t = record { bits = bit_or s.bits t.bits }

unfoldable pub is_empty : PartySet → Bool
is_empty s = eqb s.bits 0

unfoldable pub same_set : PartySet → PartySet → Bool
same_set s t = eqb s.bits t.bits

-- the empty set; the set of party i alone; all parties below n
abbrev pub none : PartySet
none = record { bits = 0 }

unfoldable pub only : ℕ → PartySet
only i = record { bits = 2 ^ i }

unfoldable pub all : ℕ → PartySet
all n = record { bits = 2 ^ n - 1 }

-- "Sets hold only parties below n"
unfoldable pub within : ℕ → PartySet → Bool
within n s = ltb s.bits (2 ^ n)

-- how many of the k parties from i on are in s; how many parties are in s
unfoldable pub count_from : ℕ → ℕ → PartySet → ℕ
count_from zero i s = 0
count_from (suc k) i s = bit i s.bits + count_from k (suc i) s

unfoldable pub count : PartySet → ℕ
count s = count_from max_parties 0 s

-- the lowest party in s of the k from i on, and i + k where there is none
unfoldable pub lowest_from : ℕ → ℕ → PartySet → ℕ
lowest_from zero i s = i
lowest_from (suc k) i s = cond (member i s) i (lowest_from k (suc i) s)

unfoldable pub lowest : PartySet → ℕ
lowest s = lowest_from max_parties 0 s

-- s without its lowest party
unfoldable pub rest : PartySet → PartySet
rest s = record { bits = bit_and s.bits (s.bits - 1) }

-- "a and q together are exactly m"
unfoldable pub make_up : ℕ → PartySet → PartySet → Bool
make_up a q m = same_set m (join (only a) q)

-- a call gave the lowest party of s and left the others, or nothing where there is none
abbrev pub GivesLowest : PartySet → Option ℕ → PartySet → Type 0
GivesLowest s given left = MatchOption given ((is_empty s ≡ true) × (left ≡ s)) (λ p. (is_empty s ≡ false) × (p ≡ lowest s) × (left ≡ rest s))
