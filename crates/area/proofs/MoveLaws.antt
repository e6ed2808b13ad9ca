-- The moves in the levels of an area: a name is bound, a value handed back, a frame put down, a body called. Assumes nothing.
use Rattle.std.specs.Prelude.{Some}
use mathlib.Core.Path.{◌≡◌, refl, sym, ap, ◌∙◌}
use mathlib.Core.List.{List, [], ◌∷◌, ◌++◌, append_assoc}
use Prim.Native.Nat.{ℕ, suc, ◌+◌, ◌-◌, ◌*◌, ◌^◌, ◌≤◌, ◌<◌}
use native.Mathlib.Nat.{add_assoc, add-zero}
use native.Mathlib.Numerals.{add-one}
use native.Mathlib.Omega.{arith}
use borrow.Author.Tests.{lt-ltb, le-ltb}
use lib.ListN.{length, get_or, set, take, drop, replicate, length-drop, length-replicate}
use lib.Seq.{sets, sets-eq, length-sets, set_out, drop-drop, length-take-le, get_or-take, get_or-drop}
use Rattle.stretches.specs.Stretches.{stretch, copied}
use Rattle.words.specs.Words.{low_first, number_at}
use Rattle.stretches.proofs.StretchLaws.{sets_before, sets_at, sets_append}
use Rattle.words.proofs.WordLaws.{length_bytes, number_same, number_in}
use Rattle.limits.specs.Limits.{max_names, max_frames}
use Rattle.limits.specs.Depths.{deeper_than}
use Rattle.limits.proofs.DepthLaws.{deeper_made, deeper_not_made}
use Rattle.parties.specs.SetBytes.{set_bytes, set_at}
use Rattle.limits.specs.declared.Depth.{Depth}
use Rattle.std.proofs.Common.{Some, None}
use Rattle.limits.specs.declared.Name.{Name}
use Rattle.parties.specs.declared.sets.PartySet.{PartySet}
use Rattle.cells.specs.Cells.{width, cell_bytes, Ranged}
use Rattle.values.specs.declared.value.Value.{Value}
use Rattle.area.specs.Rows.{row_size}
use Rattle.rules.specs.Moves.{on, hand_back, move}
use Rattle.rules.specs.Names.{bind, none_bound}
use Rattle.rules.specs.declared.effects.Move.TheVariants.{Down, Call}
use Rattle.area.specs.Binding.{Binds}
use Rattle.area.specs.Levels.{table_size, level_size, level_at, names_at, frame_at, frames_of, control_of, next_of, Goes}
use Rattle.area.specs.declared.stand.Stand.{Stand}
use Rattle.area.specs.declared.stand.Next.TheVariants.{On, Ends, Full}
use Rattle.area.proofs.CellsLaws.{cells_same, cells_set, cells_zero}
use Rattle.area.proofs.LevelLaws.{zeros, names_length, frame_same, frames_same, frames_top, frames_length, table_sets}

-- ---- only the stand changes
pub stands : (t : Stand) (w : List ℕ) → Goes (On t) (on (control_of t w)) w w
unfolding next_of
stands t w = record { gives = refl; table = refl }

-- ---- a name is bound
module _ (x : Name) (v : Value) (d : ℕ) (w : List ℕ) where
  pub bound_not : max_names ≤ x.index → Binds x v d w w
  unfolding bind
  bound_not h =
      let l : length (names_at w d) ≤ x.index = rw (names_length w d) h in
      record { names = sym (set_out (names_at w d) x.index (Some v) l); frames = refl; table = refl }

  pub bound : (at : ℕ) (w' : List ℕ) → d ≤ max_frames → row_size ≤ length w → x.index < max_names → Ranged (Some v) → at ≡ level_at d
      → w' ≡ sets w (at + x.index * width) (cell_bytes (Some v)) → Binds x v d w w'
  unfolding bind
  bound at w' few room h r place e =
      let f : w' ≡ sets w (level_at d + x.index * width) (cell_bytes (Some v)) = rw place at e in
      rw f
      record {
        names = cells_set max_names x.index w (level_at d) (Some v) h r (omega arith);
        frames = frames_same d (sets w (level_at d + x.index * width) (cell_bytes (Some v))) w
            (λ i j k. sets_before (cell_bytes (Some v)) w (level_at d + x.index * width) i (omega arith));
        table = table_sets (cell_bytes (Some v)) w (level_at d + x.index * width) (omega arith);
      }

-- ---- a value is handed back
pub ended : (v : Value) (d : ℕ) (w : List ℕ) → d ≡ 0 → Goes (Ends v) (hand_back v (frames_of w d)) w w
unfolding next_of hand_back frames_of
ended v d w e = record { gives = rw e; table = refl }

pub handed : (v : Value) (d below : Depth) (at body : ℕ) (mode : PartySet) (w w' : List ℕ) → 0 < d.frames → below.frames ≡ d.frames - 1 → at ≡ level_at below.frames
    → body ≡ number_at 2 w (at + 145) → mode ≡ set_at w (at + 147) → Binds (record { index = get_or w (at + 144) 0 }) v below.frames w w'
    → Goes (On (record { node = body; mode = mode; depth = below })) (hand_back v (frames_of w d.frames)) w w'
unfolding next_of hand_back control_of frame_at
handed v d below at body mode w w' deep e place b m n =
    record {
      gives = rw (frames_top w d.frames deep, b, m, n.names, n.frames, place, e);
      table = n.table;
    }

-- ---- a frame is put down
pub no_deeper : (x : Name) (e1 e2 : ℕ) (t : Stand) (w : List ℕ) → deeper_than t.depth ≡ None → Goes Full (move (Down x e1 e2) (control_of t w)) w w
unfolding next_of move control_of
no_deeper x e1 e2 t w m = record { gives = rw (frames_length w t.depth.frames, le-ltb t.depth.frames max_frames (deeper_not_made t.depth m)); table = refl }

-- a number in a run of stores
pub number_stored : (k : ℕ) (vs w : List ℕ) (p o : ℕ) → o + k ≤ length vs → p + length vs ≤ length w → number_at k (sets w p vs) (p + o) ≡ number_at k vs o
number_stored k vs w p o h f = number_same k (sets w p vs) (p + o) vs o (λ l j. simp add_assoc (sets_at vs w p (o + l) (omega arith) f))

-- what is written behind the cells
behind : Name → ℕ → PartySet → List ℕ
behind x e m = x.index ∷ (low_first 2 e ++ set_bytes m)

module _ (x : Name) (e : ℕ) (m : PartySet) where
  behind_length : length (behind x e m) ≡ 5
  unfolding behind low_first
  behind_length = refl

  behind_name : get_or (behind x e m) 0 0 ≡ x.index
  unfolding behind
  behind_name = refl

  behind_body : e < 2 ^ 16 → number_at 2 (behind x e m) 1 ≡ e
  unfolding behind
  behind_body h = number_in 2 e (x.index ∷ []) (set_bytes m) h

  behind_mode : m.bits < 2 ^ 16 → number_at 2 (behind x e m) 3 ≡ m.bits
  unfolding behind low_first
  behind_mode h = number_in 2 m.bits (x.index ∷ low_first 2 e) [] h

  -- the three stores are one run
  behind_written : (at : ℕ) (w w1 w2 : List ℕ) → w1 ≡ sets (set w (at + 144) x.index) (at + 145) (low_first 2 e) → w2 ≡ sets w1 (at + 147) (set_bytes m)
      → w2 ≡ sets w (at + 144) (behind x e m)
  unfolding behind
  behind_written at w w1 w2 e1 e2 =
      let body : at + 145 ≡ suc (at + 144) = omega arith in
      let mode : at + 147 ≡ suc (at + 144) + length (low_first 2 e) = omega (arith, length_bytes 2 e) in
      rw (e2, e1, mode, body) (sets_append (low_first 2 e) (set_bytes m) (set w (at + 144) x.index) (suc (at + 144)))

-- the present level, once it has been written to
module _ (x : Name) (e : ℕ) (m : PartySet) (d : ℕ) (w : List ℕ) (few : d < max_frames) (room : row_size ≤ length w) where
  written : List ℕ
  written = sets w (level_at d + 144) (behind x e m)

  written_before : (i : ℕ) → i < level_at d + 144 → get_or written i 0 ≡ get_or w i 0
  unfolding written
  written_before i h = sets_before (behind x e m) w (level_at d + 144) i h

  written_names : names_at written d ≡ names_at w d
  written_names = cells_same max_names written (level_at d) w (level_at d) (λ k h. written_before (level_at d + k) (omega arith))

  written_frame : e < 2 ^ 16 → m.bits < 2 ^ 16 → frame_at written d ≡ record { name = x; body = e; mode = m; names = names_at w d }
  unfolding frame_at written
  written_frame body-fits mode-fits =
      let l : length (behind x e m) ≡ 5 = behind_length x e m in
      let at_body : level_at d + 145 ≡ level_at d + 144 + 1 = omega arith in
      let at_mode : level_at d + 147 ≡ level_at d + 144 + 3 = omega arith in
      let name : get_or written (level_at d + 144) 0 ≡ x.index = simp add-zero at (sets_at (behind x e m) w (level_at d + 144) 0 (omega arith) (omega arith)) ∙ behind_name x e m in
      let body : number_at 2 written (level_at d + 145) ≡ e
      = rw at_body (number_stored 2 (behind x e m) w (level_at d + 144) 1 (omega arith) (omega arith)) ∙ behind_body x e m body-fits in
      let mode : number_at 2 written (level_at d + 147) ≡ m.bits
      = rw at_mode (number_stored 2 (behind x e m) w (level_at d + 144) 3 (omega arith) (omega arith)) ∙ behind_mode x e m mode-fits in
      rw (name, body, mode, written_names)

  written_frames : frames_of written d ≡ frames_of w d
  written_frames = frames_same d written w (λ i h l. written_before i (omega arith))

-- the cells of level d, copied to the next level
module _ (d : ℕ) (w w' : List ℕ) (few : d < max_frames) (room : row_size ≤ length w) (copy : w' ≡ copied w (level_at d) (level_at d + level_size) 144) where
  raised_before : (i : ℕ) → i < level_at d + level_size → get_or w' i 0 ≡ get_or w i 0
  unfolding copied
  raised_before i h = rw copy (sets_before (stretch (level_at d) 144 w) w (level_at d + level_size) i h)

  raised_names : names_at w' (d + 1) ≡ names_at w d
  unfolding copied
  raised_names =
      let next : level_at (d + 1) ≡ level_at d + level_size = omega arith in
      let l : length (stretch (level_at d) 144 w) ≡ 144 = length-take-le 144 (drop (level_at d) w) (rw length-drop (omega arith)) in
      rw next
      (cells_same max_names w' (level_at d + level_size) w (level_at d)
      (λ k h.
      rw copy
      (sets_at (stretch (level_at d) 144 w) w (level_at d + level_size) k (omega arith) (omega arith)
      ∙ get_or-take 144 (drop (level_at d) w) k 0 (omega arith)
      ∙ get_or-drop (level_at d) w k 0)))

  raised_frames : frames_of w' (d + 1) ≡ frame_at w d ∷ frames_of w d
  unfolding frames_of
  raised_frames =
      rw (add-one, frame_same d w' w (λ i h l. raised_before i (omega arith)), frames_same d w' w (λ i h l. raised_before i (omega arith)))

  raised_table : take table_size w' ≡ take table_size w
  unfolding copied
  raised_table = rw copy (table_sets (stretch (level_at d) 144 w) w (level_at d + level_size) (omega arith))

module _ (x : Name) (e1 e2 : ℕ) (t : Stand) (up : Depth) (at : ℕ) (w w1 w2 w' : List ℕ) (room : row_size ≤ length w) (body-fits : e2 < 2 ^ 16) (mode-fits : t.mode.bits < 2 ^ 16)
    (place : at ≡ level_at t.depth.frames) (stored : w1 ≡ sets (set w (at + 144) x.index) (at + 145) (low_first 2 e2)) (moded : w2 ≡ sets w1 (at + 147) (set_bytes t.mode))
    (copy : w' ≡ copied w2 at (at + level_size) 144) (deeper : deeper_than t.depth ≡ Some up) where
  pub put_down : Goes (On (record { node = e1; mode = t.mode; depth = up })) (move (Down x e1 e2) (control_of t w)) w w'
  unfolding next_of move control_of written
  put_down =
      let d : ℕ = t.depth.frames in
      let few : d < max_frames = (deeper_made t.depth up deeper).0 in
      let deep : up.frames ≡ d + 1 = (deeper_made t.depth up deeper).1 in
      let v : List ℕ = written x e2 t.mode d w few room in
      let big : row_size ≤ length v = rw (length-sets w (level_at d + 144) (behind x e2 t.mode)) room in
      let v_is : w2 ≡ v = rw place at (behind_written x e2 t.mode at w w1 w2 stored moded) in
      let raised : w' ≡ copied v (level_at d) (level_at d + level_size) 144 = rw (v_is, place) at copy in
      let names : names_at w' (d + 1) ≡ names_at w d = raised_names d v w' few big raised ∙ written_names x e2 t.mode d w few room in
      let frames : frames_of w' (d + 1) ≡ record { name = x; body = e2; mode = t.mode; names = names_at w d } ∷ frames_of w d
      = raised_frames d v w' few big raised ∙ rw (written_frame x e2 t.mode d w few room body-fits mode-fits, written_frames x e2 t.mode d w few room) in
      record {
        gives = rw (frames_length w d, lt-ltb d max_frames few, deep, names, frames);
        table = raised_table d v w' few big raised ∙ table_sets (behind x e2 t.mode) w (level_at d + 144) (omega arith);
      }

-- ---- a body is called
-- a part that was lent comes back as a run of stores
pub part_back : (a k : ℕ) (w ys : List ℕ) → length ys ≡ k → a + k ≤ length w → take a w ++ (ys ++ drop k (drop a w)) ≡ sets w a ys
part_back a k w ys e h =
    let l : a + length ys ≤ length w = omega arith in
    rw (sets-eq ys w a l, drop-drop k a w, ← e, append_assoc)

-- ---- a part that was lent and came back as zeros
module _ (at k : ℕ) (w ys : List ℕ) (fits : at + k ≤ length w) (z : ys ≡ replicate (length (take k (drop at w))) 0) where
  zeros_length : length ys ≡ k
  zeros_length = ap length z ∙ length-replicate {A = ℕ} (length (take k (drop at w))) 0 ∙ length-take-le k (drop at w) (rw length-drop (omega arith))

  pub zeros_back : take at w ++ (ys ++ drop k (drop at w)) ≡ sets w at ys
  zeros_back = part_back at k w ys zeros_length fits

  pub zeros_at : (i : ℕ) → i < k → get_or (sets w at ys) (at + i) 0 ≡ 0
  zeros_at i h = let l = zeros_length in sets_at ys w at i (omega arith) (omega arith) ∙ ap (λ (x : List ℕ). get_or x i 0) z ∙ zeros (length (take k (drop at w))) i

module _ (f : ℕ) (v : Value) (t : Stand) (at k : ℕ) (w ys w' : List ℕ) (room : row_size ≤ length w) where
  pub called : at ≡ level_at t.depth.frames → k ≡ 144 → ys ≡ replicate (length (take k (drop at w))) 0
      → Binds (record { index = 0 }) v t.depth.frames (take at w ++ (ys ++ drop k (drop at w))) w'
      → Goes (On (record { node = f; mode = t.mode; depth = t.depth })) (move (Call f v) (control_of t w)) w w'
  unfolding next_of move control_of none_bound
  called place e z b =
      let d : ℕ = t.depth.frames in
      let few : d ≤ max_frames = t.depth.within in
      let fits : at + k ≤ length w = omega arith in
      let c = zeros_back at k w ys fits z in
      let n : Binds (record { index = 0 }) v t.depth.frames (sets w at ys) w' = rw c at b in
      let names : names_at (sets w at ys) d ≡ none_bound
      = rw (← place) (cells_zero max_names (sets w at ys) at (λ i h. zeros_at at k w ys fits z i (omega arith))) in
      let frames : frames_of (sets w at ys) d ≡ frames_of w d = frames_same d (sets w at ys) w (λ i h l. sets_before ys w at i (omega arith)) in
      record {
        gives = rw (n.names, n.frames, names, frames);
        table = n.table ∙ table_sets ys w at (omega arith);
      }
