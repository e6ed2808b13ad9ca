-- A cell in bytes: what is stored is read back, and what is read goes by the cell's bytes alone. Assumes nothing.
use Rattle.std.specs.Prelude.{Option, Some, None}
use mathlib.Core.Path.{◌≡◌, refl, ap, ◌∙◌}
use mathlib.Core.List.{List, [], ◌∷◌, ◌++◌}
use Prim.Native.Nat.{ℕ, ◌+◌, ◌≤◌, ◌<◌}
use native.Mathlib.Nat.{add_assoc, add-zero, zero-add}
use native.Mathlib.Numerals.{towards_suc}
use native.Mathlib.Omega.{arith}
use lib.IntN.{ℤ}
use lib.ListN.{length, get_or, set}
use lib.Seq.{sets}
use mir.Syntax.{w32}
use mir.Val.{SFits, to_z, of_z}
use Rattle.words.specs.Words.{low_first, number_at, integer_bytes, integer_at}
use Rattle.numbers.proofs.IntegerLaws.{read32}
use Rattle.stretches.proofs.StretchLaws.{sets_at}
use Rattle.words.proofs.WordLaws.{number_same, number_in, integer_in}
use Rattle.parties.specs.Sets.{none}
use Rattle.parties.specs.SetBytes.{set_bytes, set_at}
use Rattle.parties.specs.declared.sets.PartySet.{PartySet}
use Rattle.cells.specs.Cells.{width, cell, cell_bytes, cell_at, Ranged}
use Rattle.values.specs.declared.value.Value.{Value}
use Rattle.values.specs.declared.value.Value.TheVariants.{Nothing, Clear, Share}

-- four runs of stores are one cell
pub cell_written : (xs x1 x2 x3 : List ℕ) (at sort : ℕ) (i : ℤ) (l h : PartySet) → SFits w32 i → x1 ≡ sets (set xs at sort) (at + 1) (integer_bytes (to_z w32 (of_z w32 i)))
    → x2 ≡ sets x1 (at + 5) (set_bytes l) → x3 ≡ sets x2 (at + 7) (set_bytes h) → x3 ≡ sets xs at (cell sort i l h)
unfolding low_first
cell_written xs x1 x2 x3 at sort i l h hi e1 e2 e3 = rw (e3, e2, e1, read32 i hi) (simp towards_suc)

pub cell_length : (b : Option Value) → length (cell_bytes b) ≡ width
unfolding cell_bytes low_first
cell_length None = refl
cell_length (Some Nothing) = refl
cell_length (Some (Clear i l)) = refl
cell_length (Some (Share i h l)) = refl

-- the cell read at one place is that read at another, where the bytes are the same
pub cell_same : (xs : List ℕ) (at : ℕ) (ys : List ℕ) (to : ℕ) → ((k : ℕ) → k < width → get_or xs (at + k) 0 ≡ get_or ys (to + k) 0) → cell_at xs at ≡ cell_at ys to
unfolding cell_at
cell_same xs at ys to e =
    let sort : get_or xs at 0 ≡ get_or ys to 0 = simp add-zero at (e 0 (omega arith)) in
    let i : number_at 4 xs (at + 1) ≡ number_at 4 ys (to + 1) = number_same 4 xs (at + 1) ys (to + 1) (λ k h. simp add_assoc (e (1 + k) (omega arith))) in
    let l : number_at 2 xs (at + 5) ≡ number_at 2 ys (to + 5) = number_same 2 xs (at + 5) ys (to + 5) (λ k h. simp add_assoc (e (5 + k) (omega arith))) in
    let h : number_at 2 xs (at + 7) ≡ number_at 2 ys (to + 7) = number_same 2 xs (at + 7) ys (to + 7) (λ k h. simp add_assoc (e (7 + k) (omega arith))) in
    rw (sort, i, l, h)

-- the cell of nine bytes
module _ (sort : ℕ) (i : ℤ) (l h : PartySet) where
  integer_of : SFits w32 i → integer_at (cell sort i l h) 1 ≡ i
  integer_of r = integer_in i (sort ∷ []) (set_bytes l ++ set_bytes h) r

  place_of : l.bits < 65536 → set_at (cell sort i l h) 5 ≡ l
  unfolding low_first
  place_of r = ap (λ (n : ℕ). record { bits = n }) (number_in 2 l.bits (sort ∷ integer_bytes i) (set_bytes h) r)

  holders_of : h.bits < 65536 → set_at (cell sort i l h) 7 ≡ h
  unfolding low_first
  holders_of r = ap (λ (n : ℕ). record { bits = n }) (number_in 2 h.bits (sort ∷ (integer_bytes i ++ set_bytes l)) [] r)

alone : (b : Option Value) → Ranged b → cell_at (cell_bytes b) 0 ≡ b
unfolding cell_at cell_bytes
alone None r = refl
alone (Some Nothing) r = refl
alone (Some (Clear i l)) r = rw (integer_of 2 i l none r.0, place_of 2 i l none r.1)
alone (Some (Share i h l)) r = rw (integer_of 3 i l h r.0, place_of 3 i l h r.1, holders_of 3 i l h r.2)

-- what was stored is read back
pub cell_back : (b : Option Value) (xs : List ℕ) (at : ℕ) → Ranged b → at + width ≤ length xs → cell_at (sets xs at (cell_bytes b)) at ≡ b
cell_back b xs at r f =
    cell_same (sets xs at (cell_bytes b)) at (cell_bytes b) 0 (λ k h. sets_at (cell_bytes b) xs at k (rw (cell_length b) h) (rw (cell_length b) f) ∙ rw zero-add)
    ∙ alone b r
