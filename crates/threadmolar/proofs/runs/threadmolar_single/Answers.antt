-- `threadmolar::runs::threadmolar_single` meets its contract. Assumes nothing.
use mathlib.Core.Path.{subst⁻¹}
use Rattle.threadmolar.specs.Runs.{SingleFits, SingleTold}
use Rattle.threadmolar.proofs.AnswerLaws.{single_fits}
use Rattle.threadmolar.proofs.RunLaws.{call_runs}
use Rattle.threadmolar.proofs.runs.threadmolar_single.Goals as goal

pub tell_single-requires : goal.tell_single-requires
tell_single-requires c = subst⁻¹ SingleFits c.run-answer.ensures.answer (single_fits _ _)

pub returns : goal.returns
returns c = call_runs SingleTold c.run-answer.ensures c.tell_single.ensures
