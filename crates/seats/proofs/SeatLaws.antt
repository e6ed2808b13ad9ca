-- A seat kept behind the levels: it is read back, and the levels and the table of places stay. Assumes nothing.
use mathlib.Core.Path.{◌≡◌, refl, ap, ◌∙◌}
use mathlib.Core.List.{List, [], ◌∷◌, ◌++◌}
use Prim.Native.Nat.{ℕ, ◌+◌, ◌^◌, ◌≤◌, ◌<◌}
use native.Mathlib.Nat.{add-zero}
use native.Mathlib.Omega.{arith}
use borrow.Author.Tests.{ne_eqb}
use lib.ListN.{length, get_or, set}
use lib.Seq.{sets}
use Rattle.words.specs.Words.{low_first, number_at}
use Rattle.stretches.proofs.StretchLaws.{sets_before, sets_at, sets_append}
use Rattle.words.proofs.WordLaws.{number_in}
use Rattle.limits.specs.Limits.{max_frames}
use Rattle.limits.specs.Depths.{depth_of}
use Rattle.limits.proofs.DepthLaws.{depth_made}
use Rattle.parties.specs.SetBytes.{set_bytes}
use Rattle.parties.specs.declared.sets.PartySet.{PartySet}
use Rattle.limits.specs.declared.Depth.{Depth}
use Rattle.std.proofs.Common.{Some, None}
use Rattle.area.specs.Rows.{row_size}
use Rattle.area.specs.Levels.{control_of}
use Rattle.seats.specs.Seats.{seat_place, seat_at, Saves}
use Rattle.area.specs.declared.stand.Stand.{Stand}
use Rattle.seats.specs.declared.Seat.TheVariants.{Running, Finished, Stopped}
use Rattle.area.proofs.LevelLaws.{control_same, table_sets}
use Rattle.area.proofs.MoveLaws.{number_stored}

-- ---- what is written
seat_bytes : Stand → List ℕ
seat_bytes t = 2 ∷ (low_first 2 t.node ++ (set_bytes t.mode ++ (t.depth.frames ∷ [])))

module _ (t : Stand) where
  seat_length : length (seat_bytes t) ≡ 6
  unfolding seat_bytes low_first
  seat_length = refl

  seat_how : get_or (seat_bytes t) 0 0 ≡ 2
  unfolding seat_bytes
  seat_how = refl

  seat_node : t.node < 2 ^ 16 → number_at 2 (seat_bytes t) 1 ≡ t.node
  unfolding seat_bytes
  seat_node h = number_in 2 t.node (2 ∷ []) (set_bytes t.mode ++ (t.depth.frames ∷ [])) h

  seat_mode : t.mode.bits < 2 ^ 16 → number_at 2 (seat_bytes t) 3 ≡ t.mode.bits
  unfolding seat_bytes low_first
  seat_mode h = number_in 2 t.mode.bits (2 ∷ low_first 2 t.node) (t.depth.frames ∷ []) h

  seat_frames : get_or (seat_bytes t) 5 0 ≡ t.depth.frames
  unfolding seat_bytes low_first
  seat_frames = refl

  -- the four stores are one run
  seat_written : (w w1 w2 : List ℕ) → w1 ≡ sets (set w seat_place 2) (seat_place + 1) (low_first 2 t.node) → w2 ≡ sets w1 (seat_place + 3) (set_bytes t.mode)
      → set w2 (seat_place + 5) t.depth.frames ≡ sets w seat_place (seat_bytes t)
  unfolding seat_bytes low_first
  seat_written w w1 w2 e1 e2 =
      rw (e2, e1)
      (ap (λ (x : List ℕ). sets x (seat_place + 5) (t.depth.frames ∷ [])) (sets_append (low_first 2 t.node) (set_bytes t.mode) (set w seat_place 2) (seat_place + 1))
      ∙ sets_append (low_first 2 t.node ++ set_bytes t.mode) (t.depth.frames ∷ []) (set w seat_place 2) (seat_place + 1))

-- ---- the levels and the table stay
module _ (vs w : List ℕ) where
  levels_stay : (t : Stand) → control_of t (sets w seat_place vs) ≡ control_of t w
  levels_stay t = let few : t.depth.frames ≤ max_frames = t.depth.within in control_same t (sets w seat_place vs) w (λ i h l. sets_before vs w seat_place i (omega arith))

-- ---- a seat is kept
module _ (w : List ℕ) (room : row_size ≤ length w) where
  marked : (k : ℕ) → get_or (set w seat_place k) seat_place 0 ≡ k
  marked k = simp add-zero at (sets_at (k ∷ []) w seat_place 0 (omega arith) (omega arith))

  pub saved_finished : Saves Finished w (set w seat_place 1)
  unfolding seat_at
  saved_finished = record { seat = rw (marked 1); levels = levels_stay (1 ∷ []) w; table = table_sets (1 ∷ []) w seat_place (omega arith) }

  pub saved_stopped : Saves Stopped w (set w seat_place 0)
  unfolding seat_at
  saved_stopped = record { seat = rw (marked 0); levels = levels_stay (0 ∷ []) w; table = table_sets (0 ∷ []) w seat_place (omega arith) }

pub saved_running : (t : Stand) (w w1 w2 : List ℕ) → row_size ≤ length w → t.node < 2 ^ 16 → t.mode.bits < 2 ^ 16
    → w1 ≡ sets (set w seat_place 2) (seat_place + 1) (low_first 2 t.node) → w2 ≡ sets w1 (seat_place + 3) (set_bytes t.mode)
    → Saves (Running t) w (set w2 (seat_place + 5) t.depth.frames)
unfolding seat_at
saved_running t w w1 w2 room node-fits mode-fits e1 e2 =
    let l : length (seat_bytes t) ≡ 6 = seat_length t in
    let v : List ℕ = sets w seat_place (seat_bytes t) in
    let how : get_or v seat_place 0 ≡ 2 = simp add-zero at (sets_at (seat_bytes t) w seat_place 0 (omega arith) (omega arith)) ∙ seat_how t in
    let node : number_at 2 v (seat_place + 1) ≡ t.node = number_stored 2 (seat_bytes t) w seat_place 1 (omega arith) (omega arith) ∙ seat_node t node-fits in
    let mode : number_at 2 v (seat_place + 3) ≡ t.mode.bits = number_stored 2 (seat_bytes t) w seat_place 3 (omega arith) (omega arith) ∙ seat_mode t mode-fits in
    let frames : get_or v (seat_place + 5) 0 ≡ t.depth.frames = sets_at (seat_bytes t) w seat_place 5 (omega arith) (omega arith) ∙ seat_frames t in
    rw (seat_written t w w1 w2 e1 e2)
    record {
      seat = rw (how, frames, depth_made t.depth.frames t.depth.within, node, mode);
      levels = levels_stay (seat_bytes t) w;
      table = table_sets (seat_bytes t) w seat_place (omega arith);
    }

-- ---- a seat is read
module _ (w : List ℕ) where
  pub load_finished : get_or w seat_place 0 ≡ 1 → Finished ≡ seat_at w
  unfolding seat_at
  load_finished h = rw h

  pub load_stopped : (get_or w seat_place 0 ≡ 1 → ⊥) → (get_or w seat_place 0 ≡ 2 → ⊥) → Stopped ≡ seat_at w
  unfolding seat_at
  load_stopped f r = rw (ne_eqb (get_or w seat_place 0) 1 f, ne_eqb (get_or w seat_place 0) 2 r)

  pub load_not : get_or w seat_place 0 ≡ 2 → depth_of (get_or w (seat_place + 5) 0) ≡ None → Stopped ≡ seat_at w
  unfolding seat_at
  load_not h d = rw (h, d)

  pub load_running : (node : ℕ) (mode : PartySet) (depth : Depth) → get_or w seat_place 0 ≡ 2 → depth_of (get_or w (seat_place + 5) 0) ≡ Some depth
      → node ≡ number_at 2 w (seat_place + 1) → mode ≡ record { bits = number_at 2 w (seat_place + 3) }
      → Running (record { node = node; mode = mode; depth = depth }) ≡ seat_at w
  unfolding seat_at
  load_running node mode depth h d n m = rw (h, d, n, m)
