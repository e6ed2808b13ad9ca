-- The trail of a site: the states that it goes through, as far as they are not hidden, once the values opened to it are known. The others
-- have no part in it but by those values. Assumes nothing.
use Prim.Native.Nat.{ℕ, zero, suc, ◌+◌}
use mathlib.Core.Path.{◌≡◌, refl, sym, ap, ◌∙◌}
use mathlib.Core.Bool.{Bool, true, false}
use mathlib.Core.List.{List, [], ◌∷◌, ◌++◌}
use mathlib.Core.Option.{some}
use native.Mathlib.Nat.{zero-add, suc-add}
use lib.IntN.{ℤ, pos}
use lib.ListN.{length, get_or}
use Rattle.parties.specs.Sets.{member}
use Rattle.limits.specs.declared.Party.{Party}
use Rattle.parties.specs.declared.sets.PartySet.{PartySet}
use Rattle.values.specs.Values.{place, slice}
use Rattle.values.specs.declared.value.Value.TheVariants.{Clear}
use Rattle.records.specs.Events.{has_room}
use Rattle.records.specs.EventLaws.{event_length}
use Rattle.records.specs.declared.events.Event.TheVariants.{Opened}
use Rattle.rules.specs.Moves.{Control, move}
use Rattle.rules.specs.Books.{Book, handed, event_of, event_for, room_for, add, note}
use Rattle.rules.specs.Single.{Setting}
use Rattle.rules.specs.Joint.{Site, running, over, settle, Own, acts, attends}
use Rattle.rules.specs.declared.effects.Move.TheVariants.{Hand}
use Rattle.rules.specs.declared.effects.Meeting.{Meeting}
use Rattle.rules.specs.declared.effects.Meeting.TheVariants.{Sharing, Revealing}
use Rattle.invariants.specs.Begins.{Begins}
use Rattle.invariants.specs.Sites.{events_of, takes_part}
use Rattle.invariants.proofs.BeginsLaws.{begins_refl, begins_trans, get_d_begins}
use Rattle.invariants.proofs.Grows.{own_adds, perform_adds, settle_adds, land_adds}
use Rattle.demands.specs.Opened.{openings}
use Rattle.demands.proofs.OpenedLaws.{openings_append, openings_begin}
use Rattle.demands.proofs.HiddenLaws.{hide, hide_cond}
use Rattle.demands.proofs.Alike.{hide_control, hide_site, hide_events, hidden_own, settle_hide}

-- a member's part in a meeting about the number i, as far as it is not hidden
abbrev pub hidden_part : Setting → ℕ → Control → Book → Meeting → ℤ → Site
hidden_part S P k b mt i = settle S P k b (some (event_of mt i)) (Hand (hide (slice P (handed mt i))))

-- the number that the next reveal opens to a site with this record, where L are all that are opened to it
abbrev pub next : List ℤ → Book → ℤ
next L b = get_or L (length (openings b.events)) (pos 0)

unfoldable pub advance_by : Setting → ℕ → List ℤ → Control → Book → Own → Site
advance_by S P L k b (acts s) = s
advance_by S P L k b (attends mt o) = hidden_part S P k b mt (next L b)

unfoldable pub advance : Setting → ℕ → List ℤ → Site → Site
advance S P L (running k b) = advance_by S P L k b (hidden_own S P k b)
advance S P L (over f b) = over f b

-- site P's n-th state from s on, where L are the values opened to it
unfoldable pub trail : Setting → ℕ → List ℤ → Site → ℕ → Site
trail S P L s zero = hide_site s
trail S P L s (suc n) = advance S P L (trail S P L s n)

-- ---- along the trail the record grows

module _ (S : Setting) (P : ℕ) (L : List ℤ) where
  advance_adds : (s : Site) → Begins (events_of s) (events_of (advance S P L s))
  unfolding advance advance_by hidden_own
  advance_adds (running k b) = go (hidden_own S P k b) (perform_adds S P k b _)
    where
      go : (w : Own) → own_adds b w → Begins b.events (events_of (advance_by S P L k b w))
      go (acts s) h = h
      go (attends mt o) h = settle_adds S P k b _ _
  advance_adds (over f b) = begins_refl b.events

  pub trail_adds : (s : Site) (n d : ℕ) → Begins (events_of (trail S P L s n)) (events_of (trail S P L s (d + n)))
  unfolding trail
  trail_adds s n zero = rw zero-add (begins_refl _)
  trail_adds s n (suc d) = rw suc-add (begins_trans (trail_adds s n d) (advance_adds (trail S P L s (d + n))))

-- ---- in a meeting only an opened number is seen

module _ (S : Setting) (P : ℕ) (k : Control) (b : Book) where
  sharing_seen : (a : Party) (q : PartySet) (i j : ℤ) → hidden_part S P k b (Sharing a q) i ≡ hidden_part S P k b (Sharing a q) j
  unfolding event_of handed slice place
  sharing_seen a q i j = simp hide_cond

  passed_seen : (q : PartySet) (i j : ℤ) → member P q ≡ false → hidden_part S P k b (Revealing q) i ≡ hidden_part S P k b (Revealing q) j
  unfolding event_of handed slice place settle room_for note event_for
  passed_seen q i j e = rw e

  room_known : (q : PartySet) (i j : ℤ) → member P q ≡ true → room_for S.room P (some (Opened q i)) b ≡ room_for S.room P (some (Opened q j)) b
  unfolding room_for event_for has_room
  room_known q i j e = simp (e, event_length)

  note_opened : (q : PartySet) (i : ℤ) → member P q ≡ true → openings (note P (some (Opened q i)) b).events ≡ openings b.events ++ i ∷ []
  unfolding note add event_for
  note_opened q i e = rw e (openings_append b.events (Opened q i ∷ []))

  part_opens : (q : PartySet) (i : ℤ) → member P q ≡ true → room_for S.room P (some (Opened q i)) b ≡ true
      → Begins (openings b.events ++ i ∷ []) (openings (events_of (hidden_part S P k b (Revealing q) i)))
  unfolding event_of handed settle
  part_opens q i e r = rw (r, ← (note_opened q i e)) (openings_begin (land_adds k.node (move (Hand (hide (slice P (Clear i q)))) k) (note P (some (Opened q i)) b)))

  opened_seen : (L : List ℤ) (q : PartySet) (i : ℤ) → member P q ≡ true → Begins (openings (events_of (hidden_part S P k b (Revealing q) i))) L
      → hidden_part S P k b (Revealing q) i ≡ hidden_part S P k b (Revealing q) (next L b)
  unfolding event_of settle
  opened_seen L q i e h = go (room_for S.room P (some (Opened q i)) b) refl
    where
      go : (t : Bool) → room_for S.room P (some (Opened q i)) b ≡ t → hidden_part S P k b (Revealing q) i ≡ hidden_part S P k b (Revealing q) (next L b)
      go true r = ap (λ (j : ℤ). hidden_part S P k b (Revealing q) j) (sym (get_d_begins (openings b.events) i (pos 0) (begins_trans (part_opens q i e r) h)))
      go false r = rw (← (room_known q i (next L b) e), r)

  -- where L are the values opened, the meeting's number does not matter, or is the next in L
  part_seen : (L : List ℤ) (mt : Meeting) (i : ℤ) → Begins (openings (events_of (hidden_part S P k b mt i))) L
      → hidden_part S P k b mt i ≡ hidden_part S P k b mt (next L b)
  part_seen L (Sharing a q) i h = sharing_seen a q i (next L b)
  part_seen L (Revealing q) i h = go (member P q) refl
    where
      go : (t : Bool) → member P q ≡ t → hidden_part S P k b (Revealing q) i ≡ hidden_part S P k b (Revealing q) (next L b)
      go true e = opened_seen L q i e h
      go false e = passed_seen q i (next L b) e

-- a member's part in a meeting is a step of its trail
pub part_known : (S : Setting) (P : ℕ) (c : Control) (b : Book) (L : List ℤ) (mt : Meeting) (i : ℤ) → Begins (openings (events_of (takes_part S P c b mt i))) L
    → hide_site (takes_part S P c b mt i) ≡ hidden_part S P (hide_control c) b mt (next L b)
part_known S P c b L mt i h = sym hides ∙ part_seen S P (hide_control c) b L mt i (rw (hides, hide_events) h)
  where
    hides : hidden_part S P (hide_control c) b mt i ≡ hide_site (takes_part S P c b mt i)
    hides = settle_hide S P c b _ (Hand (slice P (handed mt i)))
