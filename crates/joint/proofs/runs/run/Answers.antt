-- `joint::runs::run` meets its contract. Assumes nothing.
use mathlib.Core.Path.{sym, ap, ◌∙◌}
use Rattle.std.proofs.lemmas.Result.{err_from_is_err_and}
use Rattle.program.specs.Answer.{told}
use Rattle.rules.specs.Lent.{Lent}
use Rattle.rules.specs.Calls.{joint_of, joint_call}
use Rattle.ledger.proofs.CallLaws.{lent, call_bad}
use Rattle.joint.proofs.runs.run.Goals as goal

pub run_good-requires : goal.run_good-requires
run_good-requires c = sym c.check.ensures ∙ ap told c.in_ok-good.was

pub returns-in_err-good : goal.returns-in_err-good
unfolding joint_call joint_of
returns-in_err-good c = let a = c.args in
    let L : Lent = lent a.program.now a.counts.now a.inputs.now a.bytes.now a.lengths.now a.work.now in
    let p = err_from_is_err_and c.from_residual.result c.from_residual.ensures.1 in
    rw (p.1, p.2) (call_bad (joint_of L a.turns.now) L _ (sym c.check.ensures ∙ ap told c.in_err-good.was))
