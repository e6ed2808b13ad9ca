-- Cells one after the other: what is read goes by their bytes alone, a cell is stored, and cells of zeros are unbound. Assumes nothing.
use Rattle.std.specs.Prelude.{Option, None}
use mathlib.Core.Path.{◌≡◌, refl, ap, ap₂}
use mathlib.Core.List.{List, ◌∷◌}
use Prim.Native.Nat.{ℕ, zero, suc, ◌+◌, ◌*◌, ◌≤◌, ◌<◌}
use native.Mathlib.Nat.{add-zero, add_assoc, not-suc-le-zero}
use native.Mathlib.Omega.{arith}
use lib.ListN.{length, get_or, set, replicate}
use lib.Seq.{sets}
use Rattle.stretches.proofs.StretchLaws.{sets_before, sets_after}
use Rattle.cells.specs.Cells.{width, cell_bytes, cell_at, Ranged}
use Rattle.values.specs.declared.value.Value.{Value}
use Rattle.cells.proofs.CellLaws.{cell_length, cell_same, cell_back}
use Rattle.rules.specs.Names.{Names}
use Rattle.area.specs.Levels.{cells}

-- n bytes at one place are those at another
abbrev pub Same : List ℕ → ℕ → List ℕ → ℕ → ℕ → Type 0
Same xs at ys to n = (k : ℕ) → k < n → get_or xs (at + k) 0 ≡ get_or ys (to + k) 0

pub cells_length : (n : ℕ) (w : List ℕ) (at : ℕ) → length (cells n w at) ≡ n
unfolding cells
cells_length zero w at = refl
cells_length (suc n) w at = ap suc (cells_length n w (at + width))

pub cells_same : (n : ℕ) (xs : List ℕ) (at : ℕ) (ys : List ℕ) (to : ℕ) → Same xs at ys to (n * width) → cells n xs at ≡ cells n ys to
unfolding cells
cells_same zero xs at ys to e = refl
cells_same (suc n) xs at ys to e =
    ap₂ (λ (b : Option Value) (bs : Names). b ∷ bs)
    (cell_same xs at ys to (λ k h. e k (omega arith)))
    (cells_same n xs (at + width) ys (to + width) (λ k h. simp add_assoc (e (width + k) (omega arith))))

-- the cell of a name
pub cells_get : (n x : ℕ) (w : List ℕ) (at : ℕ) → x < n → get_or (cells n w at) x None ≡ cell_at w (at + x * width)
unfolding cells
cells_get zero x w at h = absurd (not-suc-le-zero h)
cells_get (suc n) zero w at h = let z : at + 0 * width ≡ at = omega arith in rw z
cells_get (suc n) (suc x) w at h =
    let z : at + suc x * width ≡ at + width + x * width = omega arith in
    rw z (cells_get n x w (at + width) (omega arith))

pub cells_set : (n x : ℕ) (w : List ℕ) (at : ℕ) (b : Option Value) → x < n → Ranged b → at + n * width ≤ length w
    → cells n (sets w (at + x * width) (cell_bytes b)) at ≡ set (cells n w at) x b
unfolding cells
cells_set zero x w at b h r f = absurd (not-suc-le-zero h)
cells_set (suc n) zero w at b h r f =
    let z : at + 0 * width ≡ at = omega arith in
    rw z
    (ap₂ (λ (b : Option Value) (bs : Names). b ∷ bs)
    (cell_back b w at r (omega arith))
    (cells_same n (sets w at (cell_bytes b)) (at + width) w (at + width) (λ k l. sets_after (cell_bytes b) w at (at + width + k) (rw (cell_length b) (omega arith)))))
cells_set (suc n) (suc x) w at b h r f =
    let z : at + suc x * width ≡ at + width + x * width = omega arith in
    rw z
    (ap₂ (λ (b : Option Value) (bs : Names). b ∷ bs)
    (cell_same (sets w (at + width + x * width) (cell_bytes b)) at w at (λ k l. sets_before (cell_bytes b) w (at + width + x * width) (at + k) (omega arith)))
    (cells_set n x w (at + width) b (omega arith) r (omega arith)))

pub cells_zero : (n : ℕ) (w : List ℕ) (at : ℕ) → ((k : ℕ) → k < n * width → get_or w (at + k) 0 ≡ 0) → cells n w at ≡ replicate n None
unfolding cells cell_at
cells_zero zero w at z = refl
cells_zero (suc n) w at z =
    let sort : get_or w at 0 ≡ 0 = simp add-zero at (z 0 (omega arith)) in
    ap₂ (λ (b : Option Value) (bs : Names). b ∷ bs) (rw sort) (cells_zero n w (at + width) (λ k h. simp add_assoc (z (width + k) (omega arith))))
