-- What one party sees of a state of the single run: the state of its site. And the modes of the frames, which hold the modes above them. Assumes nothing.
use Prim.Native.Nat.{ℕ, ◌<◌}
use mathlib.Core.Path.{◌≡◌, refl, sym, ◌∙◌}
use mathlib.Core.Bool.{Bool, true, false, cond, false≢true}
use mathlib.Core.List.{List, [], ◌∷◌}
use mathlib.Core.Option.{Option, none, some}
use lib.Dec.{ltb}
use lib.IntN.{ℤ, pos}
use lib.ListN.{length}
use Rattle.limits.specs.Limits.{max_frames}
use Rattle.parties.specs.Sets.{member, lowest}
use Rattle.parties.specs.declared.sets.PartySet.{PartySet}
use Rattle.values.specs.Values.{slice}
use Rattle.values.specs.declared.value.Value.TheVariants.{Nothing, Clear}
use Rattle.program.specs.Check.{node_at}
use Rattle.refusals.specs.Numbers.{no_room}
use Rattle.records.specs.declared.events.Event.{Event}
use Rattle.records.specs.declared.events.Event.TheVariants.{Read, Wrote}
use Rattle.rules.specs.Moves.{Frame, Control, Next, on, ends, full, hand_back, move}
use Rattle.rules.specs.Books.{Books, room_for, event_of, handed}
use Rattle.rules.specs.Single.{Setting, Single, going, ended, stopped, all_of, note_all, arrive, settle_all, read_all, perform, step}
use Rattle.rules.specs.Joint.{Site, over, land}
use Rattle.rules.specs.declared.effects.Move.{Move}
use Rattle.rules.specs.declared.effects.Move.TheVariants.{Hand, Down, Goto, Enter, Call}
use Rattle.rules.specs.declared.effects.Offer.TheVariants.{Empty, Secret}
use Rattle.rules.specs.declared.effects.Effect.{Effect}
use Rattle.rules.specs.declared.effects.Effect.TheVariants.{Refuse, Goes, Reads, Writes, Meets}
use Rattle.invariants.specs.Changes.{on_names, on_frame}
use Rattle.demands.proofs.Quiet.{QuietMove, Quiet, rule_quiet, clear_quiet}

-- a site has the frames that were put down in a mode that it is in
unfoldable pub frames_of : ℕ → List Frame → List Frame
frames_of P [] = []
frames_of P (f ∷ fs) = cond (member P f.mode) (on_frame (slice P) f ∷ frames_of P fs) (frames_of P fs)

abbrev pub slice_control : ℕ → Control → Control
slice_control P c = record { node = c.node; mode = c.mode; names = on_names (slice P) c.names; frames = frames_of P c.frames }

-- a party outside of the mode has been handed back nothing
unfoldable pub seen_control : ℕ → Control → Next
seen_control P c = cond (member P c.mode) (on (slice_control P c)) (hand_back Nothing (frames_of P c.frames))

unfoldable pub seen_next : ℕ → Next → Next
seen_next P (on c) = seen_control P c
seen_next P (ends v) = ends (slice P v)
seen_next P full = full

unfoldable pub seen : ℕ → Single → Site
seen P (going t c b) = land c.node (seen_control P c) (b P)
seen P (ended t v b) = over true (b P)
seen P (stopped t refusal node b) = over false (b P)

-- the run goes on or has ended: it has not been refused
abbrev pub Fine : Single → Type 0
Fine (going t c b) = Unit {0}
Fine (ended t v b) = Unit {0}
Fine (stopped t refusal node b) = ⊥

-- ---- the modes of the frames below hold the modes above, for party P; and the lowest holds only parties below n

abbrev pub Nested : ℕ → ℕ → PartySet → List Frame → Type 0
Nested n P m [] = member P m ≡ true → P < n
Nested n P m (f ∷ fs) = (member P m ≡ true → member P f.mode ≡ true) × Nested n P f.mode fs

abbrev NestedNext : ℕ → ℕ → Next → Type 0
NestedNext n P (on c) = Nested n P c.mode c.frames
NestedNext n P (ends v) = Unit {0}
NestedNext n P full = Unit {0}

abbrev pub NestedIn : ℕ → ℕ → Single → Type 0
NestedIn n P (going t c b) = Nested n P c.mode c.frames
NestedIn n P (ended t v b) = Unit {0}
NestedIn n P (stopped t refusal node b) = Unit {0}

pub nested_below : (n P : ℕ) (m : PartySet) (fs : List Frame) → Nested n P m fs → member P m ≡ true → P < n
nested_below n P m [] h e = h e
nested_below n P m (f ∷ fs) h e = nested_below n P f.mode fs h.1 (h.0 e)

module _ (n P : ℕ) where
  -- a party of a part is a party of the whole
  part_of : (m m' : PartySet) → (member P m ≡ false → member P m' ≡ false) → member P m' ≡ true → member P m ≡ true
  part_of m m' q e = go (member P m) refl
    where
      go : (t : Bool) → member P m ≡ t → member P m ≡ true
      go true p = p
      go false p = absurd (false≢true (sym (q p) ∙ e))

  nested_in : (m m' : PartySet) (fs : List Frame) → (member P m ≡ false → member P m' ≡ false) → Nested n P m fs → Nested n P m' fs
  nested_in m m' [] q h = λ e. h (part_of m m' q e)
  nested_in m m' (f ∷ fs) q h = (λ e. h.0 (part_of m m' q e), h.1)

  module _ (c : Control) (nested : Nested n P c.mode c.frames) where
    move_nested : (mv : Move) → (member P c.mode ≡ false → QuietMove P mv) → NestedNext n P (move mv c)
    unfolding move hand_back
    move_nested (Hand v) q = go c.frames nested
      where
        go : (fs : List Frame) → Nested n P c.mode fs → NestedNext n P (hand_back v fs)
        go [] k = tt
        go (f ∷ fs) k = k.1
    move_nested (Down x e1 e2) q = go (ltb (length c.frames) max_frames)
      where
        go : (t : Bool) → NestedNext n P (cond t (on (record { node = e1; mode = c.mode; names = c.names; frames = record { name = x; body = e2; mode = c.mode; names = c.names } ∷ c.frames })) full)
        go true = (λ e. e, nested)
        go false = tt
    move_nested (Goto e) q = nested
    move_nested (Enter m e) q = nested_in c.mode m c.frames q nested
    move_nested (Call f v) q = nested

    settle_all_nested : (S : Setting) (t : ℕ) (b : Books) (o : Option Event) (mv : Move) → (member P c.mode ≡ false → QuietMove P mv) → NestedIn n P (settle_all S t c b o mv)
    unfolding settle_all arrive
    settle_all_nested S t b o mv q = go (all_of S.program.parties c.mode (λ P. room_for S.room P o (b P)))
      where
        arrived : (nx : Next) → NestedNext n P nx → NestedIn n P (arrive t c.node nx (note_all c.mode o b))
        arrived (on c') k = k
        arrived (ends v) k = tt
        arrived full k = tt

        go : (r : Bool) → NestedIn n P (cond r (arrive t c.node (move mv c) (note_all c.mode o b)) (stopped t no_room c.node b))
        go true = arrived (move mv c) (move_nested mv q)
        go false = tt

    perform_nested : (S : Setting) (t : ℕ) (b : Books) (e : Effect) → (member P c.mode ≡ false → Quiet P e) → NestedIn n P (perform S t c b e)
    unfolding perform read_all
    perform_nested S t b (Refuse k) q = tt
    perform_nested S t b (Goes mv) q = settle_all_nested S t b none mv q
    perform_nested S t b Reads q = go (b (lowest c.mode)).inputs
      where
        go : (is : List ℤ) → NestedIn n P (read_all S t c b is)
        go [] = tt
        go (i ∷ is) = settle_all_nested S t b (some (Read i)) (Hand (Clear i c.mode)) (λ o. clear_quiet P c.mode o i)
    perform_nested S t b (Writes i) q = settle_all_nested S t b (some (Wrote i)) (Hand (Clear (pos 0) c.mode)) (λ o. clear_quiet P c.mode o (pos 0))
    perform_nested S t b (Meets mt Empty) q = tt
    perform_nested S t b (Meets mt (Secret i h)) q = settle_all_nested S t b (some (event_of mt i)) (Hand (handed mt i)) (λ o. q o i)

  pub step_nested : (S : Setting) (s : Single) → NestedIn n P s → NestedIn n P (step S s)
  unfolding step
  step_nested S (going t c b) h = perform_nested c h S t b _ (λ o. rule_quiet P c.mode o (node_at S.program c.node) c.names)
  step_nested S (ended t v b) h = tt
  step_nested S (stopped t k e b) h = tt
