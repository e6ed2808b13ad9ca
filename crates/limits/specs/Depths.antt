-- How many frames are down, within its limit.
use Rattle.std.specs.Prelude.{ℕ, ◌+◌, ◌≤◌, Option, Some, None}
use native.Mathlib.Decide.{dec_le}
use Rattle.limits.specs.Limits.{max_frames}
use Rattle.limits.specs.declared.Depth.{Depth}

-- the count k, where it is within the limit
abbrev pub depth_if : (k : ℕ) → Dec (k ≤ max_frames) → Option Depth
depth_if k (yes h) = Some (record { frames = k; within = h })
depth_if k (no f) = None

abbrev pub depth_of : ℕ → Option Depth
depth_of k = depth_if k (dec_le k max_frames)

-- "a LET with 64 frames down already"
abbrev pub deeper_than : Depth → Option Depth
deeper_than d = depth_of (d.frames + 1)
