-- A site of the joint run stops with a number from 5 to 11: so it stands in its book after any turns, and in its record. Assumes nothing.
use Prim.Native.Nat.{ℕ, ◌<◌}
use mathlib.Core.Path.{◌≡◌, sym, subst}
use mathlib.Core.Logic.{⊎_elim}
use mathlib.Core.Bool.{Bool, true, false, cond}
use mathlib.Core.List.Memᴰ
use mathlib.Core.List.{List, [], ◌∷◌}
use mathlib.Core.Option.{Option, none, some}
use native.Mathlib.Omega.{arith}
use lib.IntN.{ℤ, pos}
use Rattle.parties.specs.Sets.{member}
use Rattle.values.specs.declared.value.Value.{Value}
use Rattle.values.specs.declared.value.Value.TheVariants.{Nothing, Clear, Share}
use Rattle.program.specs.Check.{Program, good, checked, node_at}
use Rattle.refusals.specs.Numbers.{number_of, no_input, no_room, too_deep, disagreement}
use Rattle.records.specs.Events.{finished}
use Rattle.records.specs.declared.events.Event.{Event}
use Rattle.records.specs.declared.events.Event.TheVariants.{Read, Wrote, Shared, Opened, Passed, Finished, Stopped}
use Rattle.rules.specs.Rules.{rule}
use Rattle.rules.specs.Moves.{Control, Next, on, ends, full, move}
use Rattle.rules.specs.Books.{Book, event_of, event_for, room_for, add, note}
use Rattle.rules.specs.Single.{Setting}
use Rattle.rules.specs.Joint.{stop, land, settle, read_own, Own, acts, attends, perform_own, site, own, start_all}
use Rattle.rules.specs.Lent.{Lent, inputs_of}
use Rattle.rules.specs.Calls.{setting_of, joint_call}
use Rattle.rules.specs.declared.effects.Move.{Move}
use Rattle.rules.specs.declared.effects.Meeting.{Meeting}
use Rattle.rules.specs.declared.effects.Meeting.TheVariants.{Sharing, Revealing}
use Rattle.rules.specs.declared.effects.Effect.{Effect}
use Rattle.rules.specs.declared.effects.Effect.TheVariants.{Refuse, Goes, Reads, Writes, Meets}
use Rattle.invariants.specs.Accepted.{joint_run, IsJointRun}
use Rattle.invariants.specs.InRange.{AllBytes, AllIntegers}
use Rattle.invariants.specs.Left.{record_of}
use Rattle.invariants.specs.Sites.{events_of}
use Rattle.invariants.proofs.KeepLaws.{Keeps, run_keeps}
use Rattle.invariants.proofs.AcceptedLaws.{joint_accepted}
use Rattle.demands.specs.Demand1.{SiteStopNumber, SiteStops}
use Rattle.demands.specs.Walked.{events_in}
use Rattle.demands.proofs.CallLaws.{accepted_of, events_found}
use Rattle.demands.proofs.RefusalLaws.{Refuses, rule_refuses}

-- ---- one event more

-- an event that can be added: no stop, or one with such a number
abbrev Fine : Event → Type 0
Fine (Read i) = Unit {0}
Fine (Wrote i) = Unit {0}
Fine (Shared a q) = Unit {0}
Fine (Opened q i) = Unit {0}
Fine (Passed q) = Unit {0}
Fine (Finished tag i l h) = Unit {0}
Fine (Stopped refusal node) = SiteStopNumber refusal

add_stops : (e : Event) (b : Book) → Fine e → SiteStops b.events → SiteStops (add e b).events
unfolding add
add_stops e b f h number node m = ⊎_elim (h number node) (λ k. subst Fine (sym (Memᴰ.eq_of_singleton k)) f) (Memᴰ.append_cases b.events m)

finished_fine : (v : Value) → Fine (finished v)
unfolding finished
finished_fine Nothing = tt
finished_fine (Clear i l) = tt
finished_fine (Share i h l) = tt

meeting_fine : (P : ℕ) (mt : Meeting) (i : ℤ) → Fine (event_for P (event_of mt i))
unfolding event_of event_for
meeting_fine P (Sharing a q) i = tt
meeting_fine P (Revealing q) i = go (member P q)
  where
    go : (t : Bool) → Fine (cond t (Opened q i) (Passed q))
    go true = tt
    go false = tt

-- the event that a step writes, if it writes one
abbrev FineNote : ℕ → Option Event → Type 0
FineNote P none = Unit {0}
FineNote P (some e) = Fine (event_for P e)

note_stops : (P : ℕ) (o : Option Event) (b : Book) → FineNote P o → SiteStops b.events → SiteStops (note P o b).events
unfolding note
note_stops P none b f h = h
note_stops P (some e) b f h = add_stops (event_for P e) b f h

-- ---- a site

abbrev OwnStops : Own → Type 0
OwnStops (acts s) = SiteStops (events_of s)
OwnStops (attends mt o) = Unit {0}

land_stops : (e : ℕ) (x : Next) (b : Book) → SiteStops b.events → SiteStops (events_of (land e x b))
unfolding land
land_stops e (on c) b h = h
land_stops e (ends v) b h = add_stops (finished v) b (finished_fine v) h
land_stops e full b h = add_stops (Stopped too_deep e) b (omega arith, omega arith) h

module _ (S : Setting) (P : ℕ) (c : Control) (b : Book) (h : SiteStops b.events) where
  stop_stops : (refusal : ℕ) → SiteStopNumber refusal → SiteStops (events_of (stop refusal c.node b))
  stop_stops refusal k = add_stops (Stopped refusal c.node) b k h

  settle_stops : (o : Option Event) (mv : Move) → FineNote P o → SiteStops (events_of (settle S P c b o mv))
  unfolding settle
  settle_stops o mv f = go (room_for S.room P o b)
    where
      go : (t : Bool) → SiteStops (events_of (cond t (land c.node (move mv c) (note P o b)) (stop no_room c.node b)))
      go true = land_stops c.node (move mv c) (note P o b) (note_stops P o b f h)
      go false = stop_stops no_room (omega arith, omega arith)

  read_stops : (is : List ℤ) → SiteStops (events_of (read_own S P c b is))
  unfolding read_own event_for
  read_stops [] = stop_stops no_input (omega arith, omega arith)
  read_stops (i ∷ is) = settle_stops (some (Read i)) _ tt

  perform_stops : (e : Effect) → Refuses e → OwnStops (perform_own S P c b e)
  unfolding perform_own event_for
  perform_stops (Refuse refusal) r = stop_stops (number_of refusal) (r.0, omega (arith, r.1))
  perform_stops (Goes mv) r = settle_stops none mv tt
  perform_stops Reads r = read_stops b.inputs
  perform_stops (Writes i) r = settle_stops (some (Wrote i)) _ tt
  perform_stops (Meets mt o) r = go (room_for S.room P (some (event_of mt (pos 0))) b)
    where
      go : (t : Bool) → OwnStops (cond t (attends mt o) (acts (stop no_room c.node b)))
      go true = tt
      go false = stop_stops no_room (omega arith, omega arith)

  own_stops : (o : Own) → own S P c b ≡ o → OwnStops o
  unfolding own
  own_stops o e = subst OwnStops e (perform_stops (rule (site P) (node_at S.program c.node) c.mode c.names) (rule_refuses (site P) (node_at S.program c.node) c.mode c.names))

-- ---- the joint run

stops_kept : (S : Setting) → Keeps S (λ P s. SiteStops (events_of s)) (λ i. Unit {0})
stops_kept S =
    record {
      steps = λ P c b s h e. own_stops S P c b h (acts s) e;
      brings = λ P c b mt i l h e. tt;
      meets = λ P c b mt o i h e u. settle_stops S P c b h (some (event_of mt i)) _ (meeting_fine P mt i);
      leaves = λ P c b h. stop_stops S P c b h disagreement (omega arith, omega arith);
    }

-- whatever the turns
pub book_stops : (p : Program) (L : Lent) (ts : List ℕ) (P : ℕ) → SiteStops (events_of ((joint_run p L ts).sites P))
unfolding start_all
book_stops p L ts P =
    run_keeps (setting_of p L) (λ Q s. SiteStops (events_of s)) (λ i. Unit {0}) (stops_kept (setting_of p L)) ts (start_all (setting_of p L) (inputs_of L)) (λ Q number node m. absurd (Memᴰ.not-nil m)) P

-- a walk of the record finds the events of the book
pub record_stops : (p : Program) (L : Lent) (ts : List ℕ) → AllBytes L.program → AllIntegers L.inputs
    → checked L.program ≡ good p → IsJointRun (joint_call L ts).answer → (P : ℕ) → P < p.parties → SiteStops (events_in (record_of p.parties P (joint_call L ts)))
record_stops p L ts bytes integers checks runs P l =
    subst SiteStops (sym (events_found L ts bytes integers (accepted_of p L checks (joint_accepted L ts runs)) P l)) (book_stops p L ts P)
