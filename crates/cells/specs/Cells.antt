-- What a name is bound to, in nine bytes. Every nine bytes are something.
use Rattle.std.specs.Prelude.{ℕ, ◌+◌, ◌<◌, ◌^◌, cond, List, ◌∷◌, ◌++◌, Option, Some, None, eqb, ℤ, pos, get_or}
use Rattle.std.specs.Int.{w32}
use Rattle.std.proofs.Common.{SFits}
use Rattle.words.specs.Words.{integer_bytes, integer_at}
use Rattle.parties.specs.Sets.{none}
use Rattle.parties.specs.SetBytes.{set_bytes, set_at}
use Rattle.parties.specs.declared.sets.PartySet.{PartySet}
use Rattle.values.specs.declared.value.Value.{Value}
use Rattle.values.specs.declared.value.Value.TheVariants.{Nothing, Clear, Share}

-- the bytes of a cell
abbrev pub width : ℕ
width = 9

-- a sort, an integer, a place set and holders
abbrev pub cell : ℕ → ℤ → PartySet → PartySet → List ℕ
cell sort i l h = sort ∷ (integer_bytes i ++ (set_bytes l ++ set_bytes h))

unfoldable pub cell_bytes : Option Value → List ℕ
cell_bytes None = cell 0 (pos 0) none none
cell_bytes (Some Nothing) = cell 1 (pos 0) none none
cell_bytes (Some (Clear i l)) = cell 2 i l none
cell_bytes (Some (Share i h l)) = cell 3 i l h

-- what a sort, an integer, a place set and holders come to
abbrev pub made : ℕ → ℤ → PartySet → PartySet → Option Value
made sort i l h = cond (eqb sort 0) None (cond (eqb sort 1) (Some Nothing) (cond (eqb sort 2) (Some (Clear i l)) (Some (Share i h l))))

-- what the cell at a place holds
unfoldable pub cell_at : List ℕ → ℕ → Option Value
cell_at xs at = made (get_or xs at 0) (integer_at xs (at + 1)) (set_at xs (at + 5)) (set_at xs (at + 7))

-- the ranges that a value's type gives its integer and its sets: what is stored is read back
abbrev pub RangedValue : Value → Type 0
RangedValue Nothing = Unit {0}
RangedValue (Clear i l) = SFits w32 i × (l.bits < 2 ^ 16)
RangedValue (Share i h l) = SFits w32 i × (l.bits < 2 ^ 16) × (h.bits < 2 ^ 16)

abbrev pub Ranged : Option Value → Type 0
Ranged None = Unit {0}
Ranged (Some v) = RangedValue v
