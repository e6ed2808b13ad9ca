-- Calls that are accepted: none of the refusals 1 to 4 is met, and there is a run.
use Rattle.std.specs.Prelude.{ℕ, List}
use Rattle.std.proofs.Math.Option.{none}
use Rattle.program.specs.Check.{Program}
use Rattle.rules.specs.Lent.{Lent, inputs_of}
use Rattle.rules.specs.Single.{Single, after}
use Rattle.rules.specs.Joint.{Turned, run_turns, start_all}
use Rattle.rules.specs.Calls.{Accepted, SingleAnswer, stopped_at, ended_after, budget_used, JointAnswer, complete, still_open, setting_of, bad_turn_from}

-- the two runs of a program in what was lent
abbrev pub single_run : Program → Lent → (budget : ℕ) → Single
single_run p L budget = after (setting_of p L) (inputs_of L) budget

abbrev pub joint_run : Program → Lent → (turns : List ℕ) → Turned
joint_run p L turns = run_turns (setting_of p L) turns (start_all (setting_of p L) (inputs_of L))

-- the single call runs
abbrev pub SingleAccepted : Lent → Type 0
SingleAccepted L = Accepted (λ n. 1) (λ n. none) L

-- the joint call runs
abbrev pub JointAccepted : Lent → (turns : List ℕ) → Type 0
JointAccepted L turns = Accepted (λ n. n) (λ n. bad_turn_from n 0 turns) L

-- answers other than a refusal of the call
abbrev pub IsSingleRun : SingleAnswer → Type 0
IsSingleRun (SingleAnswer.refused number place) = ⊥
IsSingleRun (stopped_at number node steps) = Unit {0}
IsSingleRun (ended_after steps) = Unit {0}
IsSingleRun (budget_used steps) = Unit {0}

abbrev pub IsJointRun : JointAnswer → Type 0
IsJointRun (JointAnswer.refused number place) = ⊥
IsJointRun (complete turns) = Unit {0}
IsJointRun (still_open turns) = Unit {0}
