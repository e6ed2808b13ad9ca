-- Which refusals a call answers with: 1 to 4 refuse it, 5 to 10 stop the single run. Assumes nothing.
use Prim.Native.Nat.{ℕ, zero, suc}
use mathlib.Core.Bool.{Bool, true, false, cond}
use mathlib.Core.List.{List, [], ◌∷◌}
use mathlib.Core.Option.{Option}
use native.Mathlib.Omega.{arith}
use lib.IntN.{ℤ}
use Rattle.program.specs.Check.{node_at}
use Rattle.refusals.specs.Numbers.{no_room}
use Rattle.records.specs.declared.events.Event.{Event}
use Rattle.rules.specs.Rules.{rule}
use Rattle.rules.specs.Moves.{Control, Next, on, ends, full, move}
use Rattle.rules.specs.Books.{Books, room_for}
use Rattle.rules.specs.Single.{Setting, Single, going, ended, stopped, all_of, note_all, arrive, settle_all, read_all, perform, step, run, after}
use Rattle.rules.specs.Joint.{Turned, all_finished}
use Rattle.rules.specs.Lent.{Lent, Left, left_by, unchanged}
use Rattle.rules.specs.Calls.{SingleAnswer, JointAnswer, complete, still_open, setting_of, single_left, single_of, single_call, joint_left, joint_of, joint_call}
use Rattle.rules.specs.CallLaws.{Ends, refused, ran, call_ends}
use Rattle.rules.specs.declared.effects.View.TheVariants.{Whole}
use Rattle.rules.specs.declared.effects.Move.{Move}
use Rattle.rules.specs.declared.effects.Offer.TheVariants.{Empty, Secret}
use Rattle.rules.specs.declared.effects.Effect.{Effect}
use Rattle.rules.specs.declared.effects.Effect.TheVariants.{Refuse, Goes, Reads, Writes, Meets}
use Rattle.demands.specs.Demand1.{StopNumber, SingleNumber, JointNumber}
use Rattle.demands.proofs.RefusalLaws.{Refuses, rule_refuses}

-- ---- the single run

-- what a run has stopped with
abbrev Stops : Single → Type 0
Stops (going t c b) = Unit {0}
Stops (ended t v b) = Unit {0}
Stops (stopped t refusal e b) = StopNumber refusal

arrive_stops : (t e : ℕ) (x : Next) (b : Books) → Stops (arrive t e x b)
unfolding arrive
arrive_stops t e (on c) b = tt
arrive_stops t e (ends v) b = tt
arrive_stops t e full b = (omega arith, omega arith)

module _ (S : Setting) (t : ℕ) (c : Control) (b : Books) where
  settle_stops : (o : Option Event) (mv : Move) → Stops (settle_all S t c b o mv)
  unfolding settle_all
  settle_stops o mv =
      go (all_of S.program.parties c.mode (λ P. room_for S.room P o (b P)))
      (arrive t c.node (move mv c) (note_all c.mode o b)) (arrive_stops t c.node _ _)
    where
      go : (u : Bool) (s : Single) → Stops s → Stops (cond u s (stopped t no_room c.node b))
      go true s h = h
      go false s h = (omega arith, omega arith)

  read_stops : (is : List ℤ) → Stops (read_all S t c b is)
  unfolding read_all
  read_stops [] = (omega arith, omega arith)
  read_stops (i ∷ is) = settle_stops _ _

  perform_stops : (e : Effect) → Refuses e → Stops (perform S t c b e)
  unfolding perform
  perform_stops (Refuse refusal) h = h
  perform_stops (Goes mv) h = settle_stops _ _
  perform_stops Reads h = read_stops _
  perform_stops (Writes i) h = settle_stops _ _
  perform_stops (Meets mt Empty) h = (omega arith, omega arith)
  perform_stops (Meets mt (Secret i bringers)) h = settle_stops _ _

step_stops : (S : Setting) (s : Single) → Stops s → Stops (step S s)
unfolding step
step_stops S (going t c b) h =
    perform_stops S t c b (rule Whole (node_at S.program c.node) c.mode c.names)
    (rule_refuses Whole (node_at S.program c.node) c.mode c.names)
step_stops S (ended t v b) h = tt
step_stops S (stopped t refusal e b) h = h

run_stops : (S : Setting) (k : ℕ) (s : Single) → Stops s → Stops (run S k s)
unfolding run
run_stops S zero s h = h
run_stops S (suc k) (going t c b) h = run_stops S k (step S (going t c b)) (step_stops S (going t c b) tt)
run_stops S (suc k) (ended t v b) h = tt
run_stops S (suc k) (stopped t refusal e b) h = h

-- ---- the calls

left_number : (n : ℕ) (L : Lent) (s : Single) → Stops s → SingleNumber (single_left n L s).answer
unfolding single_left left_by
left_number n L (going t c b) h = tt
left_number n L (ended t v b) h = tt
left_number n L (stopped t refusal e b) h = h

pub single_number : (L : Lent) (budget : ℕ) → SingleNumber (single_call L budget).answer
unfolding single_call single_of unchanged after
single_number L budget = go (call_ends (single_of L budget) L)
  where
    go : {x : Left SingleAnswer} → Ends (single_of L budget) L x → SingleNumber x.answer
    go (refused number k w) = k
    go (ran a) = left_number a.program.parties L _ (run_stops (setting_of a.program L) budget _ tt)

open_number : (n : ℕ) (L : Lent) (t : Turned) → JointNumber (joint_left n L t).answer
unfolding joint_left left_by
open_number n L t = go (all_finished n t.sites)
  where
    go : (u : Bool) → JointNumber (cond u (complete t.count) (still_open t.count))
    go true = tt
    go false = tt

pub joint_number : (L : Lent) (ts : List ℕ) → JointNumber (joint_call L ts).answer
unfolding joint_call joint_of unchanged
joint_number L ts = go (call_ends (joint_of L ts) L)
  where
    go : {x : Left JointAnswer} → Ends (joint_of L ts) L x → JointNumber x.answer
    go (refused number k w) = k
    go (ran a) = open_number a.program.parties L _
