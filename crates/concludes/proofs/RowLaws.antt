-- Rows of one size: a row that was lent comes back in its place, and no other row changes. Assumes nothing.
use mathlib.Core.Path.{◌≡◌}
use mathlib.Core.List.{List}
use Prim.Native.Nat.{ℕ, ◌+◌, ◌-◌, ◌*◌, ◌≤◌, ◌<◌}
use native.Mathlib.Decide.{dec_lt}
use native.Mathlib.Omega.{arith}
use lib.ListN.{length}
use lib.Seq.{sets}
use Rattle.invariants.proofs.RowLaws.{rows, stored, part_before, part_after}
use Rattle.area.proofs.MoveLaws.{part_back}
use Rattle.area.specs.Rows.{row, back}

module _ (size P : ℕ) (xs ys : List ℕ) (len : length ys ≡ size) (long : P * size + size ≤ length xs) where
  back_sets : back size P xs ys ≡ sets xs (P * size) ys
  back_sets = part_back (P * size) (P * size + size - P * size) xs ys (omega arith) (omega arith)

  pub row_own : row size P (back size P xs ys) ≡ ys
  row_own =
      let q : P * size + size - P * size ≡ length ys = omega arith in
      rw (back_sets, q) (stored ys xs (P * size) (omega arith))

  pub row_other : (Q : ℕ) → (Q ≡ P → ⊥) → row size Q (back size P xs ys) ≡ row size Q xs
  row_other Q d =
      rw back_sets
      (elim (dec_lt Q P) [
        | yes q ↦ part_before ys xs (Q * size) (Q * size + size - Q * size) (P * size) (omega (arith, rows Q P size q))
        | no q ↦
            let s : P < Q = omega arith in
            part_after ys xs (Q * size) (Q * size + size - Q * size) (P * size) (omega (arith, rows P Q size s))
      ])
