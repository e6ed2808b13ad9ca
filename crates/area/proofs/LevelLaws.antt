-- Levels and frames: each goes by its own bytes alone, and where all are zero no name is bound. Assumes nothing.
use Rattle.std.specs.Prelude.{None}
use mathlib.Core.Path.{◌≡◌, refl, ap, ap₂, ◌∙◌}
use mathlib.Core.List.{List, [], ◌∷◌}
use Prim.Native.Nat.{ℕ, zero, suc, ◌+◌, ◌-◌, ◌*◌, ◌≤◌, ◌<◌}
use native.Mathlib.Nat.{not-suc-le-zero}
use native.Mathlib.Omega.{arith}
use lib.ListN.{length, get_or, set, take, replicate}
use lib.Seq.{sets, take-set-le}
use Rattle.words.specs.Words.{number_at}
use Rattle.words.proofs.WordLaws.{number_same}
use Rattle.limits.specs.Limits.{max_names}
use Rattle.cells.specs.Cells.{width, cell_at}
use Rattle.rules.specs.Names.{none_bound}
use Rattle.rules.specs.Moves.{Frame}
use Rattle.area.specs.Levels.{table_size, level_at, names_at, frame_at, frames_of, control_of}
use Rattle.area.specs.declared.stand.Stand.{Stand}
use Rattle.area.proofs.CellsLaws.{cells_length, cells_same, cells_get, cells_zero}

-- the bytes of the levels that end at a place are the same
abbrev pub SameLevels : List ℕ → List ℕ → ℕ → Type 0
SameLevels xs ys end = (i : ℕ) → table_size ≤ i → i < end → get_or xs i 0 ≡ get_or ys i 0

-- ---- the names of a level
pub names_length : (w : List ℕ) (d : ℕ) → length (names_at w d) ≡ max_names
names_length w d = cells_length max_names w (level_at d)

pub names_get : (w : List ℕ) (d x : ℕ) → x < max_names → get_or (names_at w d) x None ≡ cell_at w (level_at d + x * width)
names_get w d x h = cells_get max_names x w (level_at d) h

pub names_same : (d : ℕ) (xs ys : List ℕ) → SameLevels xs ys (level_at (suc d)) → names_at xs d ≡ names_at ys d
names_same d xs ys e = cells_same max_names xs (level_at d) ys (level_at d) (λ k h. e (level_at d + k) (omega arith) (omega arith))

pub names_fresh : (w : List ℕ) (d : ℕ) → ((k : ℕ) → k < max_names * width → get_or w (level_at d + k) 0 ≡ 0) → names_at w d ≡ none_bound
unfolding none_bound
names_fresh w d z = cells_zero max_names w (level_at d) (λ k h. z k (omega arith))

-- ---- frames
pub frame_same : (d : ℕ) (xs ys : List ℕ) → SameLevels xs ys (level_at (suc d)) → frame_at xs d ≡ frame_at ys d
unfolding frame_at
frame_same d xs ys e =
    let name : get_or xs (level_at d + 144) 0 ≡ get_or ys (level_at d + 144) 0 = e (level_at d + 144) (omega arith) (omega arith) in
    let body : number_at 2 xs (level_at d + 145) ≡ number_at 2 ys (level_at d + 145)
    = number_same 2 xs (level_at d + 145) ys (level_at d + 145) (λ k h. e (level_at d + 145 + k) (omega arith) (omega arith)) in
    let mode : number_at 2 xs (level_at d + 147) ≡ number_at 2 ys (level_at d + 147)
    = number_same 2 xs (level_at d + 147) ys (level_at d + 147) (λ k h. e (level_at d + 147 + k) (omega arith) (omega arith)) in
    rw (name, body, mode, names_same d xs ys e)

pub frames_same : (d : ℕ) (xs ys : List ℕ) → SameLevels xs ys (level_at d) → frames_of xs d ≡ frames_of ys d
unfolding frames_of
frames_same zero xs ys e = refl
frames_same (suc d) xs ys e =
    ap₂ (λ (f : Frame) (fs : List Frame). f ∷ fs) (frame_same d xs ys e) (frames_same d xs ys (λ i h l. e i h (omega arith)))

pub frames_length : (w : List ℕ) (d : ℕ) → length (frames_of w d) ≡ d
unfolding frames_of
frames_length w zero = refl
frames_length w (suc d) = ap suc (frames_length w d)

pub frames_top : (w : List ℕ) (d : ℕ) → 0 < d → frames_of w d ≡ frame_at w (d - 1) ∷ frames_of w (d - 1)
unfolding frames_of
frames_top w zero h = absurd (not-suc-le-zero h)
frames_top w (suc d) h = let e : suc d - 1 ≡ d = omega arith in rw e

-- ---- control
pub control_same : (t : Stand) (xs ys : List ℕ) → SameLevels xs ys (level_at (suc t.depth.frames)) → control_of t xs ≡ control_of t ys
unfolding control_of
control_same t xs ys e = rw (names_same t.depth.frames xs ys e, frames_same t.depth.frames xs ys (λ i h l. e i h (omega arith)))

-- ---- where a run starts
pub zeros : (m i : ℕ) → get_or {A = ℕ} (replicate m 0) i 0 ≡ 0
zeros zero i = refl
zeros (suc m) zero = refl
zeros (suc m) (suc i) = zeros m i

pub fresh : (t : Stand) (w : List ℕ) → t.depth.frames ≡ 0 → names_at w 0 ≡ none_bound
    → control_of t w ≡ record { node = t.node; mode = t.mode; names = none_bound; frames = [] }
unfolding control_of frames_of
fresh t w e z = rw (e, z)

-- ---- the table of places stays where the levels are stored to
pub table_sets : (vs w : List ℕ) (p : ℕ) → table_size ≤ p → take table_size (sets w p vs) ≡ take table_size w
table_sets [] w p h = refl
table_sets (v ∷ vs) w p h = table_sets vs (set w p v) (suc p) (omega arith) ∙ take-set-le table_size w p v h
