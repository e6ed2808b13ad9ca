-- A list that is filled from the front up to its end with a row of values, one store a turn. Assumes nothing.
use mathlib.Core.Path.{◌≡◌, sym, ◌∙◌}
use mathlib.Core.List.{List, ◌++◌, append-nil}
use Prim.Native.Nat.{ℕ, suc, ◌+◌, ◌<◌}
use native.Mathlib.Numerals.{add-one}
use lib.ListN.{length, get_or, set, drop}
use lib.Seq.{append_snoc, drop-cons, drop-length, set_at}
use Rattle.cases.specs.Rows.{row}
use Rattle.cases.proofs.RowLaws.{row_length}

module _ {A : Type 0} (f : ℕ → A) (s₀ s : List A) (i : ℕ) (so_far : s ≡ row i f ++ drop i s₀) where
  pub filled_more : (v : A) → i < length s₀ → v ≡ f i → set s i v ≡ row (i + 1) f ++ drop (i + 1) s₀
  unfolding row
  filled_more v h e =
      rw (e, so_far, add-one i, drop-cons s₀ i (f i) h) (set_at (row i f) (get_or s₀ i (f i)) (drop (suc i) s₀) (f i) i (row_length f i) ∙ sym (append_snoc (row i f) (f i) (drop (suc i) s₀)))

  pub filled_all : i ≡ length s₀ → s ≡ row (length s₀) f
  filled_all e = so_far ∙ rw (e, drop-length) (append-nil (row (length s₀) f))
