-- All that a run of a checked program writes is in range, so that a walk of a party's record finds the events that were written. Assumes nothing.
use mathlib.Core.Path.{◌≡◌, ap, ◌∙◌}
use Prim.Native.Nat.{ℕ, zero, suc, ◌^◌, ◌≤◌, ◌<◌}
use mathlib.Core.List.{List}
use native.Mathlib.Omega.{arith}
use lib.ListN.{get_or, take, drop}
use lib.Pow.{pow_mono}
use mir.Syntax.{w32}
use mir.Val.{SFits}
use Rattle.parties.specs.Sets.{all}
use Rattle.program.specs.Check.{Program, good, checked}
use Rattle.places.specs.GoodLaws.{Good, good_program}
use Rattle.records.specs.Events.{written}
use Rattle.records.specs.Ranged.{AllRanged}
use Rattle.walk.specs.Walk.{ends, walk}
use Rattle.walk.proofs.WrittenLaws.{before, walk_written}
use Rattle.rules.specs.Moves.{start}
use Rattle.rules.specs.Books.{opening}
use Rattle.rules.specs.Single.{Single, going, ended, stopped, run, after}
use Rattle.rules.specs.RunLaws.{run_one_more}
use Rattle.rules.specs.Joint.{Site, running, over, start_all, book_of}
use Rattle.rules.specs.Lent.{Lent, sum, inputs_of}
use Rattle.rules.specs.Calls.{setting_of, single_call, joint_call}
use Rattle.invariants.specs.Runs.{books_of}
use Rattle.invariants.specs.Left.{record_of}
use Rattle.invariants.specs.Accepted.{single_run, joint_run, SingleAccepted, JointAccepted}
use Rattle.invariants.specs.InRange.{AllBytes, AllIntegers, RangedControl, RangedSite, RangedBooks, RangedSingle}
use Rattle.invariants.proofs.EveryLaws.{every_take, every_drop}
use Rattle.invariants.proofs.KeepLaws.{run_keeps}
use Rattle.invariants.proofs.AcceptedLaws.{single_record, joint_record}
use Rattle.invariants.proofs.NodeLaws.{node_ranged}
use Rattle.invariants.proofs.StepRangeLaws.{none_ranged, ranged_kept, step_ranged}

-- ---- the start

start_ranged : (bs : List ℕ) (p : Program) → Good bs p → RangedControl (start p)
unfolding start all
start_ranged bs p g =
    let l : 2 ^ p.parties ≤ 2 ^ 16 = pow_mono g.few_parties in
    record { node = omega (arith, g.few_nodes); mode = omega (arith, l); names = none_ranged; frames = tt }

opening_ranged : (L : Lent) → AllIntegers L.inputs → RangedBooks (opening (inputs_of L))
unfolding inputs_of
opening_ranged L a P =
    record {
      inputs = every_take (λ i. SFits w32 i) (get_or L.counts P 0) (drop (sum (take P L.counts)) L.inputs) (every_drop (λ i. SFits w32 i) (sum (take P L.counts)) L.inputs a);
      events = tt;
    }

-- ---- the runs

site_events : (s : Site) → RangedSite s → AllRanged (book_of s).events
site_events (running c b) h = h.1.events
site_events (over done b) h = h.events

single_events : (s : Single) → RangedSingle s → (P : ℕ) → AllRanged (books_of s P).events
single_events (going t c b) h P = (h.1 P).events
single_events (ended t v b) h P = (h P).events
single_events (stopped t refusal e b) h P = (h P).events

-- a program of bytes that is good, and inputs of 32 bits
module _ (L : Lent) (p : Program) (bytes : AllBytes L.program) (integers : AllIntegers L.inputs) (checks : checked L.program ≡ good p) where
  begin : RangedControl (start p)
  begin = start_ranged L.program p (good_program L.program p checks)

  -- whatever the turns, every event of every site is in range
  pub joint_ranged : (ts : List ℕ) (P : ℕ) → AllRanged (book_of ((joint_run p L ts).sites P)).events
  unfolding start_all
  joint_ranged ts P =
      site_events ((joint_run p L ts).sites P)
      (run_keeps (setting_of p L) (λ Q s. RangedSite s) (λ i. SFits w32 i) (ranged_kept (setting_of p L) (node_ranged L.program p bytes checks)) ts (start_all (setting_of p L) (inputs_of L))
      (λ Q. (begin, opening_ranged L integers Q)) P)

  run_ranged : (k : ℕ) (s : Single) → RangedSingle s → RangedSingle (run (setting_of p L) k s)
  run_ranged zero s h = unfold run in h
  run_ranged (suc k) s h =
      rw (run_one_more (setting_of p L) k s) (step_ranged (setting_of p L) (node_ranged L.program p bytes checks) (run (setting_of p L) k s) (run_ranged k s h))

  -- after any number of steps, every event of every party is in range
  pub single_ranged : (budget P : ℕ) → AllRanged (books_of (single_run p L budget) P).events
  unfolding after
  single_ranged budget P =
      single_events (single_run p L budget) (run_ranged budget (going 0 (start p) (opening (inputs_of L))) (begin, opening_ranged L integers)) P

  -- so a walk of what was written finds the events, all of them and in their order
  pub joint_walk : (ts : List ℕ) (P : ℕ) → walk (written (book_of ((joint_run p L ts).sites P)).events) ≡ before (book_of ((joint_run p L ts).sites P)).events ends
  joint_walk ts P = walk_written (book_of ((joint_run p L ts).sites P)).events (joint_ranged ts P)

  pub single_walk : (budget P : ℕ) → walk (written (books_of (single_run p L budget) P).events) ≡ before (books_of (single_run p L budget) P).events ends
  single_walk budget P = walk_written (books_of (single_run p L budget) P).events (single_ranged budget P)

-- ---- what a call leaves

module _ (L : Lent) (bytes : AllBytes L.program) (integers : AllIntegers L.inputs) where
  -- a walk of a party's record in what an accepted joint call leaves finds the events of its site
  pub joint_call_walk : (ts : List ℕ) (a : JointAccepted L ts) (P : ℕ) → P < a.program.parties
      → walk (record_of a.program.parties P (joint_call L ts)) ≡ before (book_of ((joint_run a.program L ts).sites P)).events ends
  joint_call_walk ts a P h = ap walk (joint_record L ts a P h) ∙ joint_walk L a.program bytes integers a.checks ts P

  -- and of an accepted single call, those of the party
  pub single_call_walk : (budget : ℕ) (a : SingleAccepted L) (P : ℕ) → P < a.program.parties
      → walk (record_of a.program.parties P (single_call L budget)) ≡ before (books_of (single_run a.program L budget) P).events ends
  single_call_walk budget a P h = ap walk (single_record L budget a P h) ∙ single_walk L a.program bytes integers a.checks budget P
