-- A site is always in its own mode, and in the modes of its frames. Assumes nothing.
use Prim.Native.Nat.{ℕ}
use mathlib.Core.Path.{◌≡◌, refl, subst}
use mathlib.Core.Bool.{Bool, true, false, cond}
use mathlib.Core.List.{List, [], ◌∷◌}
use mathlib.Core.Option.{Option, none, some}
use lib.Dec.{ltb}
use lib.IntN.{ℤ, pos}
use lib.ListN.{length}
use Rattle.limits.specs.Limits.{max_frames}
use Rattle.parties.specs.Sets.{member}
use Rattle.values.specs.Values.{slice}
use Rattle.values.specs.declared.value.Value.{Value}
use Rattle.values.specs.declared.value.Value.TheVariants.{Nothing, Clear}
use Rattle.program.specs.Check.{node_at}
use Rattle.refusals.specs.Numbers.{no_room}
use Rattle.records.specs.declared.events.Event.{Event}
use Rattle.rules.specs.Moves.{Frame, Control, Next, on, ends, full, hand_back, move}
use Rattle.rules.specs.Books.{Book, event_of, handed, room_for, note}
use Rattle.rules.specs.Single.{Setting, Single, going, ended, stopped}
use Rattle.rules.specs.Joint.{Site, running, over, stop, land, settle, Own, acts, attends, read_own, perform_own, site, own}
use Rattle.rules.specs.declared.effects.Move.{Move}
use Rattle.rules.specs.declared.effects.Move.TheVariants.{Hand, Down, Goto, Enter, Call}
use Rattle.rules.specs.declared.effects.Effect.{Effect}
use Rattle.rules.specs.declared.effects.Effect.TheVariants.{Refuse, Goes, Reads, Writes, Meets}
use Rattle.invariants.specs.Changes.{on_frame}
use Rattle.invariants.proofs.Passing.{Passes, same, alone, together, apart}
use Rattle.demands.specs.Rounds.{is_joint}
use Rattle.demands.proofs.Fits.{FitsMove, Fits, rule_fits_lem}
use Rattle.demands.proofs.Seen.{frames_of, slice_control, seen_control, seen}

abbrev pub AllIn : ℕ → List Frame → Type 0
AllIn P [] = Unit {0}
AllIn P (f ∷ fs) = (member P f.mode ≡ true) × AllIn P fs

abbrev pub Inside : ℕ → Site → Type 0
Inside P (running c b) = (member P c.mode ≡ true) × AllIn P c.frames
Inside P (over f b) = Unit {0}

abbrev InsideNext : ℕ → Next → Type 0
InsideNext P (on c) = (member P c.mode ≡ true) × AllIn P c.frames
InsideNext P (ends v) = Unit {0}
InsideNext P full = Unit {0}

abbrev InsideOwn : ℕ → Own → Type 0
InsideOwn P (acts s) = Inside P s
InsideOwn P (attends mt o) = Unit {0}

hand_inside : (P : ℕ) (v : Value) (fs : List Frame) → AllIn P fs → InsideNext P (hand_back v fs)
unfolding hand_back
hand_inside P v [] h = tt
hand_inside P v (f ∷ fs) h = h

land_inside : (P e : ℕ) (nx : Next) (b : Book) → InsideNext P nx → Inside P (land e nx b)
unfolding land
land_inside P e (on c) b h = h
land_inside P e (ends v) b h = tt
land_inside P e full b h = tt

module _ (P : ℕ) (c : Control) (inside : member P c.mode ≡ true) (frames : AllIn P c.frames) where
  move_inside : (mv : Move) → FitsMove (site P) c.mode mv → InsideNext P (move mv c)
  unfolding move
  move_inside (Hand v) f = hand_inside P v c.frames frames
  move_inside (Down x e1 e2) f = go (ltb (length c.frames) max_frames)
    where
      go : (t : Bool) → InsideNext P (cond t (on (record { node = e1; mode = c.mode; names = c.names; frames = record { name = x; body = e2; mode = c.mode; names = c.names } ∷ c.frames })) full)
      go true = (inside, (inside, frames))
      go false = tt
  move_inside (Goto e) f = (inside, frames)
  move_inside (Enter m e) f = (f inside, frames)
  move_inside (Call g v) f = (inside, frames)

  settle_inside : (S : Setting) (b : Book) (o : Option Event) (mv : Move) → FitsMove (site P) c.mode mv → Inside P (settle S P c b o mv)
  unfolding settle
  settle_inside S b o mv f = go (room_for S.room P o b)
    where
      go : (t : Bool) → Inside P (cond t (land c.node (move mv c) (note P o b)) (stop no_room c.node b))
      go true = land_inside P c.node (move mv c) (note P o b) (move_inside mv f)
      go false = tt

  perform_inside : (S : Setting) (b : Book) (e : Effect) (t : Bool) → Fits (site P) t c.mode e → InsideOwn P (perform_own S P c b e)
  unfolding perform_own read_own
  perform_inside S b (Refuse k) t f = tt
  perform_inside S b (Goes mv) false f = settle_inside S b none mv f
  perform_inside S b (Goes mv) true f = absurd f
  perform_inside S b Reads t f = go b.inputs
    where
      go : (is : List ℤ) → Inside P (read_own S P c b is)
      go [] = tt
      go (i ∷ is) = settle_inside S b _ (Hand (Clear i c.mode)) tt
  perform_inside S b (Writes i) t f = settle_inside S b _ (Hand (Clear (pos 0) c.mode)) tt
  perform_inside S b (Meets mt o) t f = go (room_for S.room P (some (event_of mt (pos 0))) b)
    where
      go : (t : Bool) → InsideOwn P (cond t (attends mt o) (acts (stop no_room c.node b)))
      go true = tt
      go false = tt

  own_inside : (S : Setting) (b : Book) → InsideOwn P (own S P c b)
  unfolding own
  own_inside S b = perform_inside S b _ (is_joint (node_at S.program c.node)) (rule_fits_lem (site P) (node_at S.program c.node) c.mode c.names)

-- whatever turns
pub passes_inside : (S : Setting) (P : ℕ) (s s' : Site) → Passes S P s s' → Inside P s → Inside P s'
passes_inside S P s s' (same e) h = rw e h
passes_inside S P s s' (alone c b e w) h = let k : Inside P (running c b) = rw e at h in subst (InsideOwn P) w (own_inside P c k.0 k.1 S b)
passes_inside S P s s' (together c b mt o i e w e') h = let k : Inside P (running c b) = rw e at h in rw e' (settle_inside P c k.0 k.1 S b _ (Hand (slice P (handed mt i))) tt)
passes_inside S P s s' (apart c b e e') h = rw e' tt

frames_inside : (P : ℕ) (fs : List Frame) → AllIn P (frames_of P fs)
unfolding frames_of
frames_inside P [] = tt
frames_inside P (f ∷ fs) = go (member P f.mode) refl (frames_inside P fs)
  where
    go : (t : Bool) → member P f.mode ≡ t → AllIn P (frames_of P fs) → AllIn P (cond t (on_frame (slice P) f ∷ frames_of P fs) (frames_of P fs))
    go true e ih = (e, ih)
    go false e ih = ih

-- and so is a site as the single run shows it
pub seen_inside : (P : ℕ) (s : Single) → Inside P (seen P s)
unfolding seen seen_control
seen_inside P (going t c b) = land_inside P c.node _ (b P) (go (member P c.mode) refl)
  where
    go : (t : Bool) → member P c.mode ≡ t → InsideNext P (cond t (on (slice_control P c)) (hand_back Nothing (frames_of P c.frames)))
    go true e = (e, frames_inside P c.frames)
    go false e = hand_inside P Nothing (frames_of P c.frames) (frames_inside P c.frames)
seen_inside P (ended t v b) = tt
seen_inside P (stopped t k e b) = tt
