-- What a run of stores leaves before, in and after it; a stretch of a list copied, byte by byte. Assumes nothing.
use mathlib.Core.Path.{◌≡◌, refl, sym, ap, ◌∙◌}
use mathlib.Core.List.{List, [], ◌∷◌, ◌++◌}
use mathlib.Core.Logic.{⊎_elim}
use Prim.Native.Nat.{ℕ, zero, suc, ◌+◌, ◌≤◌, ◌<◌}
use native.Mathlib.Nat.{add-zero, not-suc-le-zero}
use native.Mathlib.Numerals.{add-one}
use native.Mathlib.Omega.{arith}
use lib.ListN.{length, get_or, set, take, drop, length-drop, length-set}
use lib.Seq.{sets, get_or-set_same, get_or-set_other, get_or-drop, length-take-le, take-suc}
use Rattle.stretches.specs.Stretches.{stretch, copied, Apart}

-- ---- bytes before a run of stores, in it and after it
pub sets_before : (vs w : List ℕ) (p i : ℕ) → i < p → get_or (sets w p vs) i 0 ≡ get_or w i 0
sets_before [] w p i h = refl
sets_before (v ∷ vs) w p i h = sets_before vs (set w p v) (suc p) i (omega arith) ∙ get_or-set_other w p i v 0 (omega arith)

pub sets_after : (vs w : List ℕ) (p i : ℕ) → p + length vs ≤ i → get_or (sets w p vs) i 0 ≡ get_or w i 0
sets_after [] w p i h = refl
sets_after (v ∷ vs) w p i h = sets_after vs (set w p v) (suc p) i (omega arith) ∙ get_or-set_other w p i v 0 (omega arith)

pub sets_at : (vs w : List ℕ) (p i : ℕ) → i < length vs → p + length vs ≤ length w → get_or (sets w p vs) (p + i) 0 ≡ get_or vs i 0
sets_at [] w p i h k = absurd (not-suc-le-zero h)
sets_at (v ∷ vs) w p zero h k =
    ap (λ (j : ℕ). get_or (sets (set w p v) (suc p) vs) j 0) (add-zero p) ∙ sets_before vs (set w p v) (suc p) p (omega arith) ∙ get_or-set_same w p v 0 (omega arith)
sets_at (v ∷ vs) w p (suc i) h k =
    let e : p + suc i ≡ suc p + i = omega arith in
    let l : suc p + length vs ≤ length (set w p v) = rw length-set (omega arith) in
    ap (λ (j : ℕ). get_or (sets (set w p v) (suc p) vs) j 0) e ∙ sets_at vs (set w p v) (suc p) i (omega arith) l

-- one run after another is one run
pub sets_append : (us vs w : List ℕ) (p : ℕ) → sets (sets w p us) (p + length us) vs ≡ sets w p (us ++ vs)
sets_append [] vs w p = rw add-zero
sets_append (u ∷ us) vs w p =
    let e : p + suc (length us) ≡ suc p + length us = omega arith in
    rw e (sets_append us vs (set w p u) (suc p))

-- ---- copy
pub copied_none : (xs : List ℕ) (from to : ℕ) → xs ≡ copied xs from to 0
unfolding copied
copied_none xs from to = refl

module _ (xs : List ℕ) (from to n i : ℕ) (hf : from + n ≤ length xs) (ht : to + n ≤ length xs) (hi : i < n) where
  stretch_length : length (stretch from i xs) ≡ i
  stretch_length = length-take-le i (drop from xs) (rw length-drop (omega arith))

  -- the byte that is read next is still the one that stood there
  still : Apart from to n → get_or (copied xs from to i) (from + i) 0 ≡ get_or xs (from + i) 0
  unfolding copied
  still a =
      ⊎_elim (λ (h : from + n ≤ to). sets_before (stretch from i xs) xs to (from + i) (omega arith))
      (λ (h : to + n ≤ from). sets_after (stretch from i xs) xs to (from + i) (rw stretch_length (omega arith))) a

  pub copied_more : (s : List ℕ) → Apart from to n → s ≡ copied xs from to i → set s (to + i) (get_or s (from + i) 0) ≡ copied xs from to (i + 1)
  unfolding copied
  copied_more s a e =
      let b : get_or s (from + i) 0 ≡ get_or (drop from xs) i 0 = ap (λ (l : List ℕ). get_or l (from + i) 0) e ∙ still a ∙ sym (get_or-drop from xs i 0) in
      let t : take (suc i) (drop from xs) ≡ stretch from i xs ++ (get_or (drop from xs) i 0 ∷ []) = take-suc (drop from xs) i 0 (rw length-drop (omega arith)) in
      rw (b, e, add-one, t, ← sets_append (stretch from i xs) (get_or (drop from xs) i 0 ∷ []) xs to, stretch_length)
