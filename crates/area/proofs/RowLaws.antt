-- A row that was lent, and that comes back as it was. Assumes nothing.
use mathlib.Core.Path.{◌≡◌, ◌∙◌}
use mathlib.Core.List.{List}
use Prim.Native.Nat.{ℕ, ◌+◌, ◌-◌, ◌*◌, ◌≤◌}
use native.Mathlib.Omega.{arith}
use lib.ListN.{length, drop, length-drop, take-append-drop}
use lib.Seq.{length-take-le}
use Rattle.area.specs.Rows.{row, back}

pub row_length : (size P : ℕ) (xs : List ℕ) → P * size + size ≤ length xs → length (row size P xs) ≡ size
row_length size P xs h =
    let q : P * size + size - P * size ≡ size = omega arith in
    length-take-le (P * size + size - P * size) (drop (P * size) xs) (rw length-drop (omega arith)) ∙ q

-- a row that came back as it was
pub back_same : (size P : ℕ) (xs : List ℕ) → back size P xs (row size P xs) ≡ xs
back_same size P xs = rw (take-append-drop (P * size + size - P * size) (drop (P * size) xs), take-append-drop (P * size) xs)
