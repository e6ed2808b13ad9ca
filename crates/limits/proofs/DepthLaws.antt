-- The count of frames: it is made where it is within its limit, and not elsewhere. Assumes nothing.
use mathlib.Core.Path.{◌≡◌, refl, sym, ap, ◌∙◌}
use Prim.Native.Nat.{ℕ, ◌+◌, ◌≤◌, ◌<◌}
use native.Mathlib.Bridge.{le_prop}
use native.Mathlib.Decide.{dec_le, dec_lt}
use native.Mathlib.Omega.{arith}
use Rattle.std.proofs.Common.{Some, None}
use Rattle.limits.specs.Limits.{max_frames}
use Rattle.limits.specs.Depths.{depth_if, depth_of, deeper_than}
use Rattle.limits.specs.declared.Depth.{Depth}

within_same : (k : ℕ) (h i : k ≤ max_frames) → ◌≡◌ {A = Depth} (record { frames = k; within = h }) (record { frames = k; within = i })
within_same k h i = ap (λ (w : k ≤ max_frames). record { frames = k; within = w }) (le_prop h i)

pub depth_made : (k : ℕ) (h : k ≤ max_frames) → depth_of k ≡ Some (record { frames = k; within = h })
depth_made k h = go (dec_le k max_frames)
  where
    go : (d : Dec (k ≤ max_frames)) → depth_if k d ≡ Some (record { frames = k; within = h })
    go (yes i) = ap Some (within_same k i h)
    go (no f) = absurd (f h)

pub depth_not_made : (k : ℕ) → max_frames < k → depth_of k ≡ None
depth_not_made k h = go (dec_le k max_frames)
  where
    go : (d : Dec (k ≤ max_frames)) → depth_if k d ≡ None
    go (yes i) = absurd (omega arith)
    go (no f) = refl

pub deeper_made : (d e : Depth) → deeper_than d ≡ Some e → (d.frames < max_frames) × (e.frames ≡ d.frames + 1)
deeper_made d e m =
    elim (dec_lt d.frames max_frames) [
      | yes h ↦
          let r : Some (record { frames = d.frames + 1; within = omega arith }) ≡ Some e = sym (depth_made (d.frames + 1) (omega arith)) ∙ m in
          let s : record { frames = d.frames + 1; within = omega arith } ≡ e = cc in
          (h, ap (λ (x : Depth). x.frames) (sym s))
      | no h ↦
          let r = sym (depth_not_made (d.frames + 1) (omega arith)) ∙ m in
          let z : ◌≡◌ {A = ℕ} 0 1 = cc in
          absurd (omega arith)
    ]

pub deeper_not_made : (d : Depth) → deeper_than d ≡ None → max_frames ≤ d.frames
deeper_not_made d m =
    elim (dec_lt d.frames max_frames) [
      | yes h ↦
          let r = sym (depth_made (d.frames + 1) (omega arith)) ∙ m in
          let z : ◌≡◌ {A = ℕ} 0 1 = cc in
          absurd (omega arith)
      | no h ↦ omega arith
    ]
