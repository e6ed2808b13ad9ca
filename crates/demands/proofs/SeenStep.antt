-- A step of the single run, as each party's site sees it: for a member at a node of its own it is the site's own step, for a party outside
-- of the mode it is no step, and a member at a joint node is there and takes part. Assumes nothing.
use Prim.Native.Nat.{ℕ, suc, ◌<◌, ◌≤◌}
use mathlib.Core.Path.{◌≡◌, refl, sym, ap, ◌∙◌, subst}
use mathlib.Core.Bool.{Bool, true, false, cond}
use mathlib.Core.List.{List, [], ◌∷◌}
use mathlib.Core.Option.{Option, none, some}
use native.Mathlib.Omega.{arith}
use lib.Dec.{ltb}
use lib.IntN.{ℤ, pos}
use lib.ListN.{length}
use Rattle.words.specs.Words.{low_first}
use Rattle.limits.specs.Limits.{max_parties, max_frames}
use Rattle.parties.specs.Sets.{member, lowest}
use Rattle.parties.specs.SetLaws.{only_member}
use Rattle.parties.specs.declared.sets.PartySet.{PartySet}
use Rattle.values.specs.Values.{slice}
use Rattle.values.specs.declared.value.Value.{Value}
use Rattle.values.specs.declared.value.Value.TheVariants.{Nothing, Clear}
use Rattle.program.specs.Check.{node_at}
use Rattle.refusals.specs.Numbers.{no_room}
use Rattle.records.specs.Events.{event_bytes, has_room}
use Rattle.records.specs.declared.events.Event.{Event}
use Rattle.records.specs.declared.events.Event.TheVariants.{Read, Wrote, Opened}
use Rattle.rules.specs.Names.{bind}
use Rattle.rules.specs.Rules.{rule}
use Rattle.rules.specs.Moves.{Frame, Control, Next, on, ends, full, hand_back, move}
use Rattle.rules.specs.Books.{Book, Books, handed, event_of, event_for, room_for, note}
use Rattle.rules.specs.Single.{Setting, going, stopped, all_of, note_all, arrive, settle_all, read_all, perform, step}
use Rattle.rules.specs.Joint.{land, settle, read_own, acts, attends, perform_own, own}
use Rattle.rules.specs.RunLaws.{Sound, whole_sound}
use Rattle.rules.specs.declared.effects.View.TheVariants.{Whole}
use Rattle.rules.specs.declared.effects.Move.{Move}
use Rattle.rules.specs.declared.effects.Move.TheVariants.{Hand, Down, Goto, Enter, Call}
use Rattle.rules.specs.declared.effects.Meeting.{Meeting}
use Rattle.rules.specs.declared.effects.Meeting.TheVariants.{Sharing, Revealing}
use Rattle.rules.specs.declared.effects.Offer.TheVariants.{Empty, Secret}
use Rattle.rules.specs.declared.effects.Effect.{Effect}
use Rattle.rules.specs.declared.effects.Effect.TheVariants.{Refuse, Goes, Reads, Writes, Meets}
use Rattle.invariants.specs.Changes.{on_names, on_frame}
use Rattle.invariants.proofs.AllOfLaws.{all_member}
use Rattle.invariants.proofs.NameLaws.{bind_on, none_on}
use Rattle.demands.specs.Rounds.{is_joint}
use Rattle.demands.proofs.Sliced.{slice_move, slice_effect, clear_slice, rule_slice}
use Rattle.demands.proofs.Quiet.{QuietMove, Quiet, clear_quiet, rule_quiet}
use Rattle.demands.proofs.Brought.{bring, meets_slice}
use Rattle.demands.proofs.Fits.{Fits, rule_fits_lem}
use Rattle.demands.proofs.Seen.{frames_of, slice_control, seen_control, seen_next, seen, Fine, Nested}

land_any : (d e P : ℕ) (c : Control) (b : Book) → land d (seen_control P c) b ≡ land e (seen_control P c) b
unfolding seen_control land hand_back
land_any d e P c b = go (member P c.mode) (frames_of P c.frames)
  where
    go : (t : Bool) (fs : List Frame) → land d (cond t (on (slice_control P c)) (hand_back Nothing fs)) b ≡ land e (cond t (on (slice_control P c)) (hand_back Nothing fs)) b
    go true fs = refl
    go false [] = refl
    go false (f ∷ fs) = refl

abbrev NotFull : Next → Type 0
NotFull (on c) = Unit {0}
NotFull (ends v) = Unit {0}
NotFull full = ⊥

not_full : (t e : ℕ) (nx : Next) (b : Books) → Fine (arrive t e nx b) → NotFull nx
unfolding arrive
not_full t e (on c) b h = tt
not_full t e (ends v) b h = tt
not_full t e full b h = h

-- the run arrives, and the site lands, at what the party sees
arrived : (P t e : ℕ) (nx : Next) (b : Books) → Fine (arrive t e nx b) → land e (seen_next P nx) (b P) ≡ seen P (arrive t e nx b)
unfolding arrive seen_next seen land
arrived P t e (on c) b h = land_any e c.node P c (b P)
arrived P t e (ends v) b h = refl
arrived P t e full b h = absurd h

-- ---- outside of the mode

module _ (P : ℕ) (c : Control) (outside : member P c.mode ≡ false) where
  handed_out : (v : Value) → slice P v ≡ Nothing → (fs : List Frame) → seen_next P (hand_back v fs) ≡ hand_back Nothing (frames_of P fs)
  unfolding hand_back seen_next seen_control frames_of
  handed_out v q [] = rw q
  handed_out v q (f ∷ fs) = go (member P f.mode) refl
    where
      go : (t : Bool) → member P f.mode ≡ t
          → cond (member P f.mode) (on (record { node = f.body; mode = f.mode; names = on_names (slice P) (bind f.name v f.names); frames = frames_of P fs }))
          (hand_back Nothing (frames_of P fs))
          ≡ hand_back Nothing (cond (member P f.mode) (on_frame (slice P) f ∷ frames_of P fs) (frames_of P fs))
      go true e = rw (e, bind_on (slice P) f.name v f.names, q)
      go false e = rw e

  move_unseen : (mv : Move) → QuietMove P mv → NotFull (move mv c) → seen_next P (move mv c) ≡ hand_back Nothing (frames_of P c.frames)
  unfolding move seen_next seen_control frames_of
  move_unseen (Hand v) q h = handed_out v q c.frames
  move_unseen (Down x e1 e2) q h = go (ltb (length c.frames) max_frames) h
    where
      d : Control
      d = record { node = e1; mode = c.mode; names = c.names; frames = record { name = x; body = e2; mode = c.mode; names = c.names } ∷ c.frames }

      go : (t : Bool) → NotFull (cond t (on d) full) → seen_next P (cond t (on d) full) ≡ hand_back Nothing (frames_of P c.frames)
      go true k = rw outside
      go false k = absurd k
  move_unseen (Goto e) q h = rw outside
  move_unseen (Enter m e) q h = rw q
  move_unseen (Call f v) q h = rw outside

  settle_unseen : (S : Setting) (t : ℕ) (b : Books) (o : Option Event) (mv : Move) → QuietMove P mv → Fine (settle_all S t c b o mv)
      → seen P (settle_all S t c b o mv) ≡ seen P (going t c b)
  unfolding settle_all seen seen_control
  settle_unseen S t b o mv q h = go (all_of S.program.parties c.mode (λ P. room_for S.room P o (b P))) h
    where
      b' : Books
      b' = note_all c.mode o b

      same_book : b' P ≡ b P
      same_book = unfold note_all in rw outside

      go : (r : Bool) → Fine (cond r (arrive t c.node (move mv c) b') (stopped t no_room c.node b))
          → seen P (cond r (arrive t c.node (move mv c) b') (stopped t no_room c.node b)) ≡ land c.node (seen_control P c) (b P)
      go true k = sym (arrived P t c.node (move mv c) b' k) ∙ rw (move_unseen mv q (not_full t c.node (move mv c) b' k), same_book, outside)
      go false k = absurd k

  perform_unseen : (S : Setting) (t : ℕ) (b : Books) (e : Effect) → Quiet P e → Fine (perform S t c b e) → seen P (perform S t c b e) ≡ seen P (going t c b)
  unfolding perform
  perform_unseen S t b (Refuse k) q h = absurd h
  perform_unseen S t b (Goes mv) q h = settle_unseen S t b none mv q h
  perform_unseen S t b Reads q h = go (b (lowest c.mode)).inputs h
    where
      go : (is : List ℤ) → Fine (read_all S t c b is) → seen P (read_all S t c b is) ≡ seen P (going t c b)
      go [] k = absurd (unfold read_all in k)
      go (i ∷ is) k = unfold read_all in settle_unseen S t b (some (Read i)) (Hand (Clear i c.mode)) (clear_quiet P c.mode outside i) k
  perform_unseen S t b (Writes i) q h = settle_unseen S t b (some (Wrote i)) (Hand (Clear (pos 0) c.mode)) (clear_quiet P c.mode outside (pos 0)) h
  perform_unseen S t b (Meets mt Empty) q h = absurd h
  perform_unseen S t b (Meets mt (Secret i k)) q h = settle_unseen S t b (some (event_of mt i)) (Hand (handed mt i)) (q i) h

  -- a party outside of the mode sees no step
  pub step_unseen : (S : Setting) (t : ℕ) (b : Books) → Fine (step S (going t c b)) → seen P (step S (going t c b)) ≡ seen P (going t c b)
  unfolding step
  step_unseen S t b h = perform_unseen S t b _ (rule_quiet P c.mode outside (node_at S.program c.node) c.names) h

-- ---- in the mode

-- an event's length does not depend on its number
pub room_any : (R P : ℕ) (mt : Meeting) (b : Book) (i j : ℤ) → room_for R P (some (event_of mt i)) b ≡ room_for R P (some (event_of mt j)) b
unfolding room_for event_of event_for has_room event_bytes low_first
room_any R P (Sharing a q) b i j = refl
room_any R P (Revealing q) b i j = go (member P q) refl
  where
    go : (t : Bool) → member P q ≡ t → room_for R P (some (Opened q i)) b ≡ room_for R P (some (Opened q j)) b
    go true e = rw e
    go false e = rw e

module _ (n P : ℕ) (c : Control) (inside : member P c.mode ≡ true) (nested : Nested n P c.mode c.frames) where
  frames_length : (m : PartySet) (fs : List Frame) → member P m ≡ true → Nested n P m fs → length (frames_of P fs) ≡ length fs
  unfolding frames_of
  frames_length m [] e h = refl
  frames_length m (f ∷ fs) e h = rw (h.0 e) (ap suc (frames_length f.mode fs (h.0 e) h.1))

  handed_in : (v : Value) (fs : List Frame) → Nested n P c.mode fs → hand_back (slice P v) (frames_of P fs) ≡ seen_next P (hand_back v fs)
  unfolding hand_back seen_next seen_control frames_of
  handed_in v [] h = refl
  handed_in v (f ∷ fs) h = rw (h.0 inside, bind_on (slice P) f.name v f.names)

  pub move_seen : (mv : Move) → move (slice_move P mv) (slice_control P c) ≡ seen_next P (move mv c)
  unfolding move seen_next seen_control frames_of
  move_seen (Hand v) = handed_in v c.frames nested
  move_seen (Down x e1 e2) = rw (frames_length c.mode c.frames inside nested) (go (ltb (length c.frames) max_frames))
    where
      d : Control
      d = record { node = e1; mode = c.mode; names = c.names; frames = record { name = x; body = e2; mode = c.mode; names = c.names } ∷ c.frames }

      d' : Control
      d' = record { node = e1; mode = c.mode; names = on_names (slice P) c.names; frames = record { name = x; body = e2; mode = c.mode; names = on_names (slice P) c.names } ∷ frames_of P c.frames }

      go : (t : Bool) → cond t (on d') full ≡ seen_next P (cond t (on d) full)
      go true = rw inside
      go false = refl
  move_seen (Goto e) = rw inside
  move_seen (Enter m e) = go (member P m) refl
    where
      go : (t : Bool) → member P m ≡ t → move (cond t (Enter m e) (Hand Nothing)) (slice_control P c) ≡ seen_control P (record { node = e; mode = m; names = c.names; frames = c.frames })
      go true p = rw p
      go false p = rw p
  move_seen (Call f v) = rw (inside, bind_on, none_on)

  settle_seen : (S : Setting) (t : ℕ) (b : Books) (o : Option Event) (mv : Move) → P < S.program.parties → Fine (settle_all S t c b o mv)
      → settle S P (slice_control P c) (b P) o (slice_move P mv) ≡ seen P (settle_all S t c b o mv)
  unfolding settle_all settle
  settle_seen S t b o mv p h = go (all_of S.program.parties c.mode (λ P. room_for S.room P o (b P))) refl h
    where
      b' : Books
      b' = note_all c.mode o b

      same_book : b' P ≡ note P o (b P)
      same_book = unfold note_all in rw inside

      go : (r : Bool) → all_of S.program.parties c.mode (λ P. room_for S.room P o (b P)) ≡ r
          → Fine (cond r (arrive t c.node (move mv c) b') (stopped t no_room c.node b))
          → settle S P (slice_control P c) (b P) o (slice_move P mv) ≡ seen P (cond r (arrive t c.node (move mv c) b') (stopped t no_room c.node b))
      go true e k =
          let r : room_for S.room P o (b P) ≡ true = all_member c.mode (λ P. room_for S.room P o (b P)) _ e P p inside in
          rw (r, move_seen mv, ← same_book) (arrived P t c.node (move mv c) b' k)
      go false e k = absurd k

  -- the same for a value at the mode, which a party of the mode sees whole
  settle_mode : (S : Setting) (t : ℕ) (b : Books) (o : Option Event) (i : ℤ) → P < S.program.parties → Fine (settle_all S t c b o (Hand (Clear i c.mode)))
      → settle S P (slice_control P c) (b P) o (Hand (Clear i c.mode)) ≡ seen P (settle_all S t c b o (Hand (Clear i c.mode)))
  settle_mode S t b o i p h = subst (λ (v : Value). settle S P (slice_control P c) (b P) o (Hand v) ≡ seen P (settle_all S t c b o (Hand (Clear i c.mode)))) (clear_slice P c.mode inside i)
      (settle_seen S t b o (Hand (Clear i c.mode)) p h)

  perform_seen : (S : Setting) (t : ℕ) (b : Books) (e : Effect) → P < S.program.parties → S.program.parties ≤ max_parties → Fits Whole false c.mode e → Sound c.mode e
      → Fine (perform S t c b e) → perform_own S P (slice_control P c) (b P) (slice_effect P e) ≡ acts (seen P (perform S t c b e))
  unfolding perform perform_own
  perform_seen S t b (Refuse k) p small f a h = absurd h
  perform_seen S t b (Goes mv) p small f a h = ap acts (settle_seen S t b none mv p h)
  perform_seen S t b Reads p small f a h = rw lowest_is (ap acts (go (b P).inputs (rw lowest_is at h)))
    where
      lowest_is : lowest c.mode ≡ P
      lowest_is = only_member c.mode P a (omega arith) inside

      go : (is : List ℤ) → Fine (read_all S t c b is) → read_own S P (slice_control P c) (b P) is ≡ seen P (read_all S t c b is)
      go [] k = absurd (unfold read_all in k)
      go (i ∷ is) k = unfold read_all read_own in settle_mode S t b (some (Read i)) i p k
  perform_seen S t b (Writes i) p small f a h = ap acts (settle_mode S t b (some (Wrote i)) (pos 0) p h)
  perform_seen S t b (Meets mt o) p small f a h = absurd f

  -- a step at a node that is not joint is the site's own step
  pub step_seen : (S : Setting) (t : ℕ) (b : Books) → P < S.program.parties → S.program.parties ≤ max_parties → is_joint (node_at S.program c.node) ≡ false → Fine (step S (going t c b))
      → own S P (slice_control P c) (b P) ≡ acts (seen P (step S (going t c b)))
  unfolding step own
  step_seen S t b p small j h =
      rw (rule_slice P c.mode inside (node_at S.program c.node) c.names j)
      (perform_seen S t b _ p small (subst (λ (t : Bool). Fits Whole t c.mode (rule Whole (node_at S.program c.node) c.mode c.names)) j
      (rule_fits_lem Whole (node_at S.program c.node) c.mode c.names)) (whole_sound c.mode (node_at S.program c.node) c.names) h)

  -- a settled step had room for each member
  had_room : (S : Setting) (t : ℕ) (b : Books) (o : Option Event) (mv : Move) → P < S.program.parties → Fine (settle_all S t c b o mv) → room_for S.room P o (b P) ≡ true
  unfolding settle_all
  had_room S t b o mv p h = go (all_of S.program.parties c.mode (λ P. room_for S.room P o (b P))) refl h
    where
      go : (r : Bool) → all_of S.program.parties c.mode (λ P. room_for S.room P o (b P)) ≡ r
          → Fine (cond r (arrive t c.node (move mv c) (note_all c.mode o b)) (stopped t no_room c.node b)) → room_for S.room P o (b P) ≡ true
      go true e k = all_member c.mode (λ P. room_for S.room P o (b P)) _ e P p inside
      go false e k = absurd k

  -- a member attends the meeting of the single run
  pub met_attends : (S : Setting) (t : ℕ) (b : Books) (mt : Meeting) (i : ℤ) (h : PartySet) → P < S.program.parties → is_joint (node_at S.program c.node) ≡ true
      → rule Whole (node_at S.program c.node) c.mode c.names ≡ Meets mt (Secret i h) → Fine (step S (going t c b))
      → own S P (slice_control P c) (b P) ≡ attends mt (bring P i h)
  unfolding step own perform perform_own
  met_attends S t b mt i h p j e k =
      let r : room_for S.room P (some (event_of mt (pos 0))) (b P) ≡ true =
      room_any S.room P mt (b P) (pos 0) i ∙ had_room S t b (some (event_of mt i)) (Hand (handed mt i)) p (rw e at k) in
      rw (meets_slice P c.mode inside (node_at S.program c.node) c.names mt i h j e, r)

  -- and takes part in it
  pub met_seen : (S : Setting) (t : ℕ) (b : Books) (mt : Meeting) (i : ℤ) (h : PartySet) → P < S.program.parties
      → rule Whole (node_at S.program c.node) c.mode c.names ≡ Meets mt (Secret i h) → Fine (step S (going t c b))
      → settle S P (slice_control P c) (b P) (some (event_of mt i)) (Hand (slice P (handed mt i))) ≡ seen P (step S (going t c b))
  unfolding step perform
  met_seen S t b mt i h p e k = rw e (settle_seen S t b (some (event_of mt i)) (Hand (handed mt i)) p (rw e at k))
