-- Rows of one width; and a part of a list in which a run of stores was made, or from which it lies apart. Assumes nothing.
use mathlib.Core.Path.{◌≡◌, refl}
use mathlib.Core.List.{List, ◌++◌}
use Prim.Native.Nat.{ℕ, suc, ◌+◌, ◌*◌, ◌≤◌, ◌<◌, min}
use native.Mathlib.Nat.{mul-le-mul_right, suc-mul}
use native.Mathlib.Omega.{arith}
use lib.ListN.{length, get_or, take, drop, length-append, length-take, length-drop}
use lib.Seq.{sets, length-sets, sets-eq, ext_get_or, get_or-take, get_or-drop, take_at, drop_at, drop-append-le, length-take-le}
use Rattle.stretches.proofs.StretchLaws.{sets_before, sets_after}

-- rows of one width do not meet
pub rows : (j i k : ℕ) → j < i → j * k + k ≤ i * k
rows j i k h = let q : suc j * k ≤ i * k = mul-le-mul_right k h in omega (arith, q, suc-mul j k)

-- what was stored stands where it was stored
pub stored : (vs w : List ℕ) (a : ℕ) → a + length vs ≤ length w → take (length vs) (drop a (sets w a vs)) ≡ vs
stored vs w a h =
    let t : length (take a w) ≡ a = length-take-le a w (omega arith) in
    let l : a ≤ length (take a w ++ vs) = rw length-append (omega (arith, t)) in
    rw (sets-eq vs w a h, drop-append-le a (take a w ++ vs) (drop (a + length vs) w) l, drop_at (take a w) vs a t) (take_at vs (drop (a + length vs) w) (length vs) refl)

module _ (vs w : List ℕ) (a k q : ℕ) where
  -- a part of which each byte is as it was
  part_same : ((i : ℕ) → i < k → get_or (sets w q vs) (a + i) 0 ≡ get_or w (a + i) 0) → take k (drop a (sets w q vs)) ≡ take k (drop a w)
  part_same f =
      ext_get_or 0 (take k (drop a (sets w q vs))) (take k (drop a w)) (simp (length-take, length-drop, length-sets))
      (λ i h.
      let j : i < k = (let z : i < min k (length (drop a (sets w q vs))) = rw length-take at h in omega arith) in
      rw (get_or-take k (drop a (sets w q vs)) i 0 j, get_or-take k (drop a w) i 0 j, get_or-drop a (sets w q vs) i 0, get_or-drop a w i 0) (f i j))

  -- one that ends where the stores begin, or before
  pub part_before : a + k ≤ q → take k (drop a (sets w q vs)) ≡ take k (drop a w)
  part_before h = part_same (λ i j. sets_before vs w q (a + i) (omega arith))

  -- one that begins where the stores end, or after
  pub part_after : q + length vs ≤ a → take k (drop a (sets w q vs)) ≡ take k (drop a w)
  part_after h = part_same (λ i j. sets_after vs w q (a + i) (omega arith))
