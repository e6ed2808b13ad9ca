-- Demand 2 holds. Assumes nothing.
use Prim.Native.Nat.{ℕ, ◌<◌, ◌≤◌}
use mathlib.Core.Path.{◌≡◌, refl, sym, ap, ◌∙◌, subst}
use mathlib.Core.Bool.{Bool, true, false, cond}
use mathlib.Core.List.{List}
use native.Mathlib.Omega.{arith}
use lib.ListN.{get_or, take, drop}
use Rattle.limits.specs.Limits.{max_parties}
use Rattle.program.specs.Check.{Program, good, checked}
use Rattle.places.specs.GoodLaws.{good_program}
use Rattle.values.specs.declared.value.Value.{Value}
use Rattle.records.specs.Events.{written}
use Rattle.rules.specs.Books.{Book, Books, used}
use Rattle.rules.specs.Lent.{Lent, Left, sum, inputs_of, left_by}
use Rattle.rules.specs.Single.{Setting, Single, going, ended, stopped, after}
use Rattle.rules.specs.Joint.{Turned, all_finished, book_of, is_finished}
use Rattle.rules.specs.Calls.{SingleAnswer, JointAnswer, ended_after, complete, still_open, setting_of, single_left, joint_left, single_call, joint_call}
use Rattle.invariants.specs.Accepted.{SingleAccepted, JointAccepted, IsJointRun, single_run, joint_run}
use Rattle.invariants.specs.InRange.{AllBytes, AllIntegers}
use Rattle.invariants.specs.Left.{record_of}
use Rattle.invariants.specs.Runs.{books_of}
use Rattle.invariants.proofs.AcceptedLaws.{single_accepted, single_is, single_record, single_length, joint_accepted, joint_is, joint_record, joint_length}
use Rattle.demands.specs.Rounds.{Rounds, IsEnded, turns_of}
use Rattle.demands.specs.Walked.{events_in}
use Rattle.demands.specs.Demand2.{has_finished, Equal, Demand2}
use Rattle.demands.proofs.StepCount.{ended_by}
use Rattle.demands.proofs.FinishedLaws.{turns_below, each_finished, all_finished_lem}
use Rattle.demands.proofs.FinishedRecords.{shown}
use Rattle.demands.proofs.SameRecords.{same_record, rounds_complete}
use Rattle.demands.proofs.TurnCount.{turn_count}
use Rattle.demands.proofs.CallLaws.{one_setting, accepted_of, events_found}

-- ---- what the answers say of the runs

record EndedAt (s : Single) (steps : ℕ) : Type 0 where
  value : Value
  books : Books
  is : s ≡ ended steps value books

ended_at : (n : ℕ) (L : Lent) (s : Single) (steps : ℕ) → (single_left n L s).answer ≡ ended_after steps → EndedAt s steps
unfolding single_left left_by
ended_at n L (going t c b) steps e = absurd (let z : ◌≡◌ {A = ℕ} 0 1 = cc in omega arith)
ended_at n L (ended t v b) steps e =
    let q : t ≡ steps = cc in
    record { value = v; books = b; is = ap (λ (k : ℕ). ended k v b) q }
ended_at n L (stopped t refusal node b) steps e = absurd (let z : ◌≡◌ {A = ℕ} 0 1 = cc in omega arith)

record CompleteAt (n : ℕ) (t : Turned) (turns : ℕ) : Type 0 where
  all : all_finished n t.sites ≡ true
  count : t.count ≡ turns

complete_at : (n : ℕ) (L : Lent) (t : Turned) (turns : ℕ) → (joint_left n L t).answer ≡ complete turns → CompleteAt n t turns
unfolding joint_left left_by
complete_at n L t turns e = go (all_finished n t.sites) refl e
  where
    go : (y : Bool) → all_finished n t.sites ≡ y → cond y (complete t.count) (still_open t.count) ≡ complete turns → CompleteAt n t turns
    go true q e = let k : t.count ≡ turns = cc in record { all = q; count = k }
    go false q e = absurd (let z : ◌≡◌ {A = ℕ} 0 1 = cc in omega arith)

answered : (n : ℕ) (L : Lent) (t : Turned) → all_finished n t.sites ≡ true → (joint_left n L t).answer ≡ complete t.count
unfolding joint_left left_by
answered n L t e = rw e

completed : (a : JointAnswer) (turns : ℕ) → a ≡ complete turns → IsJointRun a
completed a turns e = rw e tt

-- ---- equal programs, counts, inputs and room

inputs_same : (L L' : Lent) → L'.counts ≡ L.counts → L'.inputs ≡ L.inputs → inputs_of L' ≡ inputs_of L
unfolding inputs_of
inputs_same L L' e f = λ i P. take (get_or (e i) P 0) (drop (sum (take P (e i))) (f i))

module _ (p : Program) (L L' : Lent) (budget steps : ℕ) (same : Equal p L L') (ends : (single_call L budget).answer ≡ ended_after steps) where
  abbrev S : Setting
  S = setting_of p L

  abbrev single : SingleAccepted L
  single = accepted_of p L same.checks (single_accepted L budget (rw ends tt))

  checks' : checked L'.program ≡ good p
  checks' = ap checked same.program ∙ same.checks

  abbrev joint : (ts : List ℕ) → IsJointRun (joint_call L' ts).answer → JointAccepted L' ts
  joint ts r = accepted_of p L' checks' (joint_accepted L' ts r)

  run_same : (ts : List ℕ) → joint_run p L' ts ≡ joint_run p L ts
  run_same ts = rw (one_setting p p L L' refl same.room, inputs_same L L' same.counts same.inputs)

  small : p.parties ≤ max_parties
  small = (good_program L.program p same.checks).few_parties

  ended_here : EndedAt (after S (inputs_of L) budget) steps
  ended_here = ended_at p.parties L (after S (inputs_of L) budget) steps (ap (λ (x : Left SingleAnswer). x.answer) (sym (single_is L budget single)) ∙ ends)

  ended_steps : after S (inputs_of L) steps ≡ after S (inputs_of L) budget
  ended_steps = ended_by S (inputs_of L) budget steps ended_here.is ∙ sym ended_here.is

  end : IsEnded (after S (inputs_of L) steps)
  end = rw (ended_steps, ended_here.is) tt

  -- a site that has finished has the single run's book
  book : (ts : List ℕ) (r : IsJointRun (joint_call L' ts).answer) (P : ℕ) → P < p.parties → is_finished ((joint_run p L' ts).sites P) ≡ true
      → book_of ((joint_run p L' ts).sites P) ≡ books_of (single_run p L budget) P
  book ts r P l f =
      rw (run_same ts) (same_record S (inputs_of L) steps end small ts (turns_below p.parties 0 ts (joint ts r).turns) P l (rw (run_same ts) at f))
      ∙ ap (λ (s : Single). books_of s P) ended_steps

  record_same : (ts : List ℕ) (r : IsJointRun (joint_call L' ts).answer) (P : ℕ) → P < p.parties → is_finished ((joint_run p L' ts).sites P) ≡ true
      → record_of p.parties P (joint_call L' ts) ≡ record_of p.parties P (single_call L budget)
  record_same ts r P l f =
      joint_record L' ts (joint ts r) P l ∙ ap (λ (b : Book). written b.events) (book ts r P l f) ∙ sym (single_record L budget single P l)

  length_same : (ts : List ℕ) (r : IsJointRun (joint_call L' ts).answer) (P : ℕ) → P < p.parties → is_finished ((joint_run p L' ts).sites P) ≡ true
      → get_or (joint_call L' ts).lengths P 0 ≡ get_or (single_call L budget).lengths P 0
  length_same ts r P l f = joint_length L' ts (joint ts r) P l ∙ ap used (book ts r P l f) ∙ sym (single_length L budget single P l)

  -- a joint call that answers complete
  done : (ts : List ℕ) (turns : ℕ) → (e : (joint_call L' ts).answer ≡ complete turns) → CompleteAt p.parties (joint_run p L' ts) turns
  done ts turns e =
      complete_at p.parties L' (joint_run p L' ts) turns (ap (λ (x : Left JointAnswer). x.answer) (sym (joint_is L' ts (joint ts (completed _ turns e)))) ∙ e)

  each_done : (ts : List ℕ) (turns : ℕ) → (joint_call L' ts).answer ≡ complete turns → (P : ℕ) → P < p.parties → is_finished ((joint_run p L' ts).sites P) ≡ true
  each_done ts turns e = each_finished p.parties (joint_run p L' ts).sites (done ts turns e).all

  counted : (ts : List ℕ) (r : IsJointRun (joint_call L' ts).answer) → ((P : ℕ) → P < p.parties → is_finished ((joint_run p L' ts).sites P) ≡ true)
      → (joint_run p L' ts).count ≡ turns_of S (inputs_of L) steps
  counted ts r f =
      rw (run_same ts)
      (turn_count S (inputs_of L) steps end small ts (turns_below p.parties 0 ts (joint ts r).turns) (λ P l. rw (run_same ts) at (f P l)))

  rounds_done : (ts : List ℕ) (r : IsJointRun (joint_call L' ts).answer) → Rounds p.parties steps ts → (P : ℕ) → P < p.parties → is_finished ((joint_run p L' ts).sites P) ≡ true
  rounds_done ts r k P l =
      rw (run_same ts) (rounds_complete S (inputs_of L) steps end small ts (turns_below p.parties 0 ts (joint ts r).turns) k P l)

  rounds_answer : (ts : List ℕ) → IsJointRun (joint_call L' ts).answer → Rounds p.parties steps ts → (joint_call L' ts).answer ≡ complete (turns_of S (inputs_of L) steps)
  rounds_answer ts r k =
      ap (λ (x : Left JointAnswer). x.answer) (joint_is L' ts (joint ts r))
      ∙ answered p.parties L' (joint_run p L' ts) (all_finished_lem p.parties (joint_run p L' ts).sites (rounds_done ts r k))
      ∙ ap complete (counted ts r (rounds_done ts r k))

  finished_same : AllBytes L.program → AllIntegers L.inputs → (ts : List ℕ) → IsJointRun (joint_call L' ts).answer → (P : ℕ) → P < p.parties
      → has_finished (events_in (record_of p.parties P (joint_call L' ts))) ≡ true
      → record_of p.parties P (joint_call L' ts) ≡ record_of p.parties P (single_call L budget)
  finished_same bytes integers ts r P l f =
      let e = events_found L' ts (subst AllBytes (sym same.program) bytes) (subst AllIntegers (sym same.inputs) integers) (joint ts r) P l in
      record_same ts r P l (sym (shown (setting_of p L') (inputs_of L') ts P) ∙ ap has_finished (sym e) ∙ f)

pub demand_2 : Demand2
demand_2 p L L' budget steps same ends =
    record {
      same_record = λ ts turns e P l. record_same p L L' budget steps same ends ts (completed _ turns e) P l (each_done p L L' budget steps same ends ts turns e P l);
      same_length = λ ts turns e P l. length_same p L L' budget steps same ends ts (completed _ turns e) P l (each_done p L L' budget steps same ends ts turns e P l);
      rounds = rounds_answer p L L' budget steps same ends;
      count = λ ts turns e.
          sym (done p L L' budget steps same ends ts turns e).count
          ∙ counted p L L' budget steps same ends ts (completed _ turns e) (each_done p L L' budget steps same ends ts turns e);
      finished = finished_same p L L' budget steps same ends;
    }
