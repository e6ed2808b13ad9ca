-- `threadmolar::runs::threadmolar_joint` meets its contract. Assumes nothing.
use mathlib.Core.Path.{subst⁻¹}
use Rattle.threadmolar.specs.Runs.{JointFits, JointTold}
use Rattle.threadmolar.proofs.AnswerLaws.{joint_fits}
use Rattle.threadmolar.proofs.RunLaws.{call_runs}
use Rattle.threadmolar.proofs.runs.threadmolar_joint.Goals as goal

pub tell_joint-requires : goal.tell_joint-requires
tell_joint-requires c = subst⁻¹ JointFits c.run-answer.ensures.answer (joint_fits _ _)

pub returns : goal.returns
returns c = call_runs JointTold c.run-answer.ensures c.tell_joint.ensures
