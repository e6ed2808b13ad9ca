-- A record stays within its room: a run under way has what is held back left over, and one that is over has used no more than the room. Assumes nothing.
use mathlib.Core.Path.{◌≡◌, refl}
use mathlib.Core.Bool.{Bool, true, false, cond}
use mathlib.Core.List.{List, [], ◌∷◌}
use mathlib.Core.Option.{Option, none, some}
use Prim.Native.Nat.{ℕ, zero, suc, ◌+◌, ◌≤◌, ◌<◌}
use native.Mathlib.Omega.{arith}
use lib.IntN.{ℤ, pos}
use lib.ListN.{length}
use borrow.Author.Tests.{leb-true}
use Rattle.parties.specs.Sets.{member, lowest}
use Rattle.parties.specs.declared.sets.PartySet.{PartySet}
use Rattle.values.specs.Values.{slice}
use Rattle.program.specs.Check.{node_at}
use Rattle.refusals.specs.Numbers.{number_of, wrong_value, no_input, no_room, too_deep, disagreement}
use Rattle.records.specs.Events.{event_bytes, written, finished, held_back, has_room}
use Rattle.records.specs.EventLaws.{event_short}
use Rattle.records.specs.declared.events.Event.{Event}
use Rattle.records.specs.declared.events.Event.TheVariants.{Read, Wrote, Stopped}
use Rattle.rules.specs.Rules.{rule}
use Rattle.rules.specs.Moves.{Control, Next, on, ends, full, start, move}
use Rattle.rules.specs.Books.{Book, Books, opening, used, handed, event_of, event_for, room_for, add, note}
use Rattle.rules.specs.Single.{Setting, Single, going, ended, stopped, all_of, note_all, arrive, settle_all, read_all, perform, step, run, after}
use Rattle.rules.specs.RunLaws.{run_one_more}
use Rattle.rules.specs.Joint.{Site, running, over, stop, land, settle, read_own, Own, acts, attends, perform_own, site, own, run_turns, start_all, book_of}
use Rattle.rules.specs.declared.effects.View.TheVariants.{Whole}
use Rattle.rules.specs.declared.effects.Move.{Move}
use Rattle.rules.specs.declared.effects.Move.TheVariants.{Hand}
use Rattle.rules.specs.declared.effects.Offer.TheVariants.{Empty, Secret}
use Rattle.rules.specs.declared.effects.Effect.{Effect}
use Rattle.rules.specs.declared.effects.Effect.TheVariants.{Refuse, Goes, Reads, Writes, Meets}
use Rattle.invariants.specs.Runs.{books_of}
use Rattle.invariants.specs.Room.{Spare, Fits}
use Rattle.invariants.proofs.AllOfLaws.{all_member}
use Rattle.invariants.proofs.BookLaws.{used_added}
use Rattle.invariants.proofs.KeepLaws.{Keeps, run_keeps}

-- ---- one book

-- the last event goes into what was held back
pub last_fits : (R : ℕ) (e : Event) (b : Book) → Spare R b → used (add e b) ≤ R
last_fits R e b h = omega (arith, h, used_added e b, event_short e)

-- any other is written under the room test
pub fits_after : (R u : ℕ) (e : Event) → has_room R u e ≡ true → u + length (event_bytes e) + held_back ≤ R
unfolding has_room
fits_after R u e h = leb-true (u + length (event_bytes e) + held_back) R h

note_spare : (R P : ℕ) (o : Option Event) (b : Book) → room_for R P o b ≡ true → Spare R b → Spare R (note P o b)
unfolding note room_for
note_spare R P none b t h = h
note_spare R P (some e) b t h = omega (arith, used_added (event_for P e) b, fits_after R (used b) (event_for P e) t)

-- nothing is written at the start
pub start_spare : (R : ℕ) (inputs : ℕ → List ℤ) → held_back ≤ R → (P : ℕ) → Spare R (opening inputs P)
unfolding used written
start_spare R inputs h P = h

-- ---- a site

module _ (S : Setting) (P : ℕ) (c : Control) (b : Book) (h : Spare S.room b) where
  land_fits : (e : ℕ) (n : Next) (a : Book) → Spare S.room a → Fits S.room (land e n a)
  unfolding land
  land_fits e (on d) a g = g
  land_fits e (ends v) a g = last_fits S.room (finished v) a g
  land_fits e full a g = last_fits S.room (Stopped too_deep e) a g

  stop_fits : (refusal e : ℕ) → Fits S.room (stop refusal e b)
  stop_fits refusal e = last_fits S.room (Stopped refusal e) b h

  settle_fits : (o : Option Event) (mv : Move) → Fits S.room (settle S P c b o mv)
  unfolding settle
  settle_fits o mv = go (room_for S.room P o b) refl
    where
      go : (t : Bool) → room_for S.room P o b ≡ t → Fits S.room (cond t (land c.node (move mv c) (note P o b)) (stop no_room c.node b))
      go true q = land_fits c.node (move mv c) (note P o b) (note_spare S.room P o b q h)
      go false q = stop_fits no_room c.node

  read_fits : (is : List ℤ) → Fits S.room (read_own S P c b is)
  unfolding read_own
  read_fits [] = stop_fits no_input c.node
  read_fits (i ∷ is) = settle_fits (some (Read i)) _

  -- what a site does by itself leaves it within its room
  abbrev Within : Own → Type 0
  Within (acts s) = Fits S.room s
  Within (attends mt o) = Unit {0}

  perform_fits : (e : Effect) → Within (perform_own S P c b e)
  unfolding perform_own
  perform_fits (Refuse refusal) = stop_fits (number_of refusal) c.node
  perform_fits (Goes mv) = settle_fits none mv
  perform_fits Reads = read_fits b.inputs
  perform_fits (Writes i) = settle_fits (some (Wrote i)) _
  perform_fits (Meets mt o) = go (room_for S.room P (some (event_of mt (pos 0))) b)
    where
      go : (t : Bool) → Within (cond t (attends mt o) (acts (stop no_room c.node b)))
      go true = tt
      go false = stop_fits no_room c.node

  own_fits : (s : Site) → own S P c b ≡ acts s → Fits S.room s
  unfolding own
  own_fits s e = rw e at (perform_fits (rule (site P) (node_at S.program c.node) c.mode c.names))

fits_kept : (S : Setting) → Keeps S (λ P s. Fits S.room s) (λ i. Unit {0})
fits_kept S =
    record {
      steps = λ P c b s h e. own_fits S P c b h s e;
      brings = λ P c b mt i l h e. tt;
      meets = λ P c b mt o i h e u. settle_fits S P c b h (some (event_of mt i)) (Hand (slice P (handed mt i)));
      leaves = λ P c b h. stop_fits S P c b h disagreement c.node;
    }

pub book_fits : (R : ℕ) (s : Site) → Fits R s → used (book_of s) ≤ R
book_fits R (running c b) h = omega (arith, h)
book_fits R (over done b) h = h

-- after any turns, every site's record is within its room
pub joint_fits_lem : (S : Setting) (inputs : ℕ → List ℤ) → held_back ≤ S.room → (ts : List ℕ) (P : ℕ) → used (book_of ((run_turns S ts (start_all S inputs)).sites P)) ≤ S.room
unfolding start_all
joint_fits_lem S inputs h ts P =
    book_fits S.room ((run_turns S ts (start_all S inputs)).sites P)
    (run_keeps S (λ P s. Fits S.room s) (λ i. Unit {0}) (fits_kept S) ts (start_all S inputs) (start_spare S.room inputs h) P)

-- ---- the single run

-- every party below n
abbrev Below : ℕ → (Book → Type 0) → Books → Type 0
Below n Q b = (P : ℕ) → P < n → Q (b P)

abbrev AllFit : (n R : ℕ) → Single → Type 0
AllFit n R (going t c b) = Below n (Spare R) b
AllFit n R (ended t v b) = Below n (λ a. used a ≤ R) b
AllFit n R (stopped t refusal e b) = Below n (λ a. used a ≤ R) b

-- an event for which each member has room leaves each what is held back
pub noted_spare : (R : ℕ) (m : PartySet) (o : Option Event) (b : Books) (P : ℕ) → (member P m ≡ true → room_for R P o (b P) ≡ true) → Spare R (b P) → Spare R (note_all m o b P)
unfolding note_all
noted_spare R m o b P t h = go (member P m) refl
  where
    go : (s : Bool) → member P m ≡ s → Spare R (cond s (note P o (b P)) (b P))
    go true i = note_spare R P o (b P) (t i) h
    go false i = h

module _ (S : Setting) (t : ℕ) (c : Control) (b : Books) (h : Below S.program.parties (Spare S.room) b) where
  abbrev n : ℕ
  n = S.program.parties

  noted : (o : Option Event) → all_of n c.mode (λ P. room_for S.room P o (b P)) ≡ true → Below n (Spare S.room) (note_all c.mode o b)
  noted o a P l = noted_spare S.room c.mode o b P (λ i. all_member c.mode (λ Q. room_for S.room Q o (b Q)) n a P l i) (h P l)

  arrive_fits : (e : ℕ) (x : Next) (a : Books) → Below n (Spare S.room) a → AllFit n S.room (arrive t e x a)
  unfolding arrive
  arrive_fits e (on d) a g = g
  arrive_fits e (ends v) a g = λ P l. last_fits S.room (finished (slice P v)) (a P) (g P l)
  arrive_fits e full a g = λ P l. omega (arith, g P l)

  stopped_fits : (refusal e : ℕ) → AllFit n S.room (stopped t refusal e b)
  stopped_fits refusal e = λ P l. omega (arith, h P l)

  settle_all_fits : (o : Option Event) (mv : Move) → AllFit n S.room (settle_all S t c b o mv)
  unfolding settle_all
  settle_all_fits o mv = go (all_of n c.mode (λ P. room_for S.room P o (b P))) refl
    where
      go : (s : Bool) → all_of n c.mode (λ P. room_for S.room P o (b P)) ≡ s
          → AllFit n S.room (cond s (arrive t c.node (move mv c) (note_all c.mode o b)) (stopped t no_room c.node b))
      go true q = arrive_fits c.node (move mv c) (note_all c.mode o b) (noted o q)
      go false q = stopped_fits no_room c.node

  read_all_fits : (is : List ℤ) → AllFit n S.room (read_all S t c b is)
  unfolding read_all
  read_all_fits [] = stopped_fits no_input c.node
  read_all_fits (i ∷ is) = settle_all_fits (some (Read i)) _

  perform_all_fits : (e : Effect) → AllFit n S.room (perform S t c b e)
  unfolding perform
  perform_all_fits (Refuse refusal) = stopped_fits (number_of refusal) c.node
  perform_all_fits (Goes mv) = settle_all_fits none mv
  perform_all_fits Reads = read_all_fits (b (lowest c.mode)).inputs
  perform_all_fits (Writes i) = settle_all_fits (some (Wrote i)) _
  perform_all_fits (Meets mt Empty) = stopped_fits wrong_value c.node
  perform_all_fits (Meets mt (Secret i l)) = settle_all_fits (some (event_of mt i)) _

module _ (S : Setting) where
  step_fits : (s : Single) → AllFit S.program.parties S.room s → AllFit S.program.parties S.room (step S s)
  unfolding step
  step_fits (going t c b) h = perform_all_fits S t c b h (rule Whole (node_at S.program c.node) c.mode c.names)
  step_fits (ended t v b) h = h
  step_fits (stopped t refusal e b) h = h

  run_fits : (k : ℕ) (s : Single) → AllFit S.program.parties S.room s → AllFit S.program.parties S.room (run S k s)
  run_fits zero s h = unfold run in h
  run_fits (suc k) s h = rw (run_one_more S k s) (step_fits (run S k s) (run_fits k s h))

books_fit : (n R : ℕ) (s : Single) → AllFit n R s → (P : ℕ) → P < n → used (books_of s P) ≤ R
books_fit n R (going t c b) h P l = omega (arith, h P l)
books_fit n R (ended t v b) h P l = h P l
books_fit n R (stopped t refusal e b) h P l = h P l

-- after any number of steps, every party's record is within its room
pub single_fits_lem : (S : Setting) (inputs : ℕ → List ℤ) → held_back ≤ S.room → (k P : ℕ) → P < S.program.parties → used (books_of (after S inputs k) P) ≤ S.room
unfolding after
single_fits_lem S inputs h k P l =
    books_fit S.program.parties S.room (after S inputs k)
    (run_fits S k (going 0 (start S.program) (opening inputs)) (λ Q g. start_spare S.room inputs h Q)) P l
