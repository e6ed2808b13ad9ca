-- Demand 1 holds. Assumes nothing.
use Prim.Native.Nat.{ℕ}
use mathlib.Core.Path.{◌≡◌, refl, sym, ap, ◌∙◌}
use mathlib.Core.Bool.{Bool, true, false, cond}
use mathlib.Core.List.{List}
use Rattle.program.specs.Answer.{CheckAnswer, accepted, refused}
use Rattle.program.specs.Answer as Check
use Rattle.std.proofs.Common.{Result, Ok, Err}
use Rattle.program.specs.declared.check.Good.{Good}
use Rattle.program.specs.declared.check.BadRecord.{BadRecord}
use Rattle.walk.specs.Walk.{StepAnswer, event, end}
use Rattle.walk.specs.Walk as Walk
use Rattle.walk.specs.declared.Step.{Step}
use Rattle.walk.specs.declared.Step.TheVariants as Step'
use Rattle.reader.specs.declared.Reader.{Reader}
use Rattle.rules.specs.Lent.{Lent, unchanged, left_by}
use Rattle.rules.specs.Single.{Single, going, ended, stopped}
use Rattle.rules.specs.Joint.{Turned, all_finished}
use Rattle.rules.specs.Calls.{JointAnswer, single_left, single_of, single_call, joint_left, joint_of, joint_call}
use Rattle.rules.specs.CallLaws.{call_refused}
use Rattle.single.proofs.OneAnswer as Single
use Rattle.joint.proofs.OneAnswer as Joint
use Rattle.invariants.specs.Accepted.{IsSingleRun, IsJointRun}
use Rattle.demands.specs.Demand1.{Untouched, Demand1}
use Rattle.demands.proofs.Stops.{single_number, joint_number}
use Rattle.demands.proofs.SiteStops.{book_stops, record_stops}

-- no two answers say the same
untold_check : CheckAnswer → Result Good BadRecord
untold_check (accepted n k) = Ok (record { parties = n; nodes = k })
untold_check (refused number place) = Err (record { place = place })

check_back : (r : Result Good BadRecord) → untold_check (Check.told r) ≡ r
unfolding untold_check
check_back (Ok g) = refl
check_back (Err b) = refl

untold_step : StepAnswer → Step
untold_step (event e next) = Step'.Event e (record { at = next })
untold_step end = Step'.End
untold_step (StepAnswer.refused number place) = Step'.Bad place

step_back : (r : Step) → untold_step (Walk.told r) ≡ r
unfolding untold_step
step_back (Step'.Event e next) = refl
step_back Step'.End = refl
step_back (Step'.Bad place) = refl

-- a reader is its slice and its place
one_reader : (r r' : Reader) → r.bytes ≡ r'.bytes → r.at ≡ r'.at → r ≡ r'
one_reader r r' e f = λ i. record { bytes = e i; at = f i }

-- ---- refused calls

untouched : {A : Type 0} (L : Lent) (a : A) → Untouched L (unchanged L a)
unfolding unchanged
untouched L a = record { records = refl; lengths = refl; work = refl }

single_runs : (n : ℕ) (L : Lent) (s : Single) → IsSingleRun (single_left n L s).answer
unfolding single_left left_by
single_runs n L (going t c b) = tt
single_runs n L (ended t v b) = tt
single_runs n L (stopped t refusal e b) = tt

single_refused : (L : Lent) (budget : ℕ) → (IsSingleRun (single_call L budget).answer → ⊥) → Untouched L (single_call L budget)
unfolding single_call single_of
single_refused L budget h = call_refused (single_of L budget) L IsSingleRun (Untouched L) (untouched L) (λ p. single_runs p.parties L _) h

joint_runs : (n : ℕ) (L : Lent) (t : Turned) → IsJointRun (joint_left n L t).answer
unfolding joint_left left_by
joint_runs n L t = go (all_finished n t.sites)
  where
    go : (all : Bool) → IsJointRun (cond all (JointAnswer.complete t.count) (JointAnswer.still_open t.count))
    go true = tt
    go false = tt

joint_refused : (L : Lent) (ts : List ℕ) → (IsJointRun (joint_call L ts).answer → ⊥) → Untouched L (joint_call L ts)
unfolding joint_call joint_of
joint_refused L ts h = call_refused (joint_of L ts) L IsJointRun (Untouched L) (untouched L) (λ p. joint_runs p.parties L _) h

pub demand_1 : Demand1
demand_1 =
    record {
      check = λ bs r r' e e'. sym (check_back r) ∙ ap untold_check (e ∙ sym e') ∙ check_back r';
      step = λ bs at r r' e e'. sym (step_back r) ∙ ap untold_step (e ∙ sym e') ∙ step_back r';
      reader_new = λ bytes r r' h h'. one_reader r r' (h.0 ∙ sym h'.0) (h.1 ∙ sym h'.1);
      reader_moved_on = λ d r r' h h'. one_reader r r' (h.0 ∙ sym h'.0) (h.1 ∙ sym h'.1);
      order = λ xs ys r r' e e'. e ∙ sym e';
      continuation = λ a b r r' k k'. (k.bytes ∙ sym k'.bytes, k.place ∙ sym k'.place);
      single = λ L budget. Single.one_answer (single_call L budget);
      single_refused = single_refused;
      joint = λ L ts. Joint.one_answer (joint_call L ts);
      joint_refused = joint_refused;
      single_number = single_number;
      joint_number = joint_number;
      book_stops = λ p L ts checks runs. book_stops p L ts;
      record_stops = record_stops;
    }
