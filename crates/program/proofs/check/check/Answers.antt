-- `program::check::check` meets its contract. Assumes nothing.
use mathlib.Core.Path.{sym, ◌∙◌}
use native.Mathlib.Omega.{arith}
use Rattle.program.proofs.ScanSteps.{scan_good}
use Rattle.program.proofs.CheckLaws.{parties_good, answer_none, answer_is, answer_bad, going_start, going_bad, going_on, going_none, going_good, going_lost}
use Rattle.program.proofs.check.check.Goals as goal

pub returns-in_default : goal.returns-in_default
returns-in_default c = answer_none c.args.program.now (sym c.parties_of.ensures ∙ c.in_default.is)

pub loop-at-init : goal.loop-at-init
loop-at-init c = going_start c.args.program.now c.in-Some.parties

pub record_at-requires : goal.record_at-requires
record_at-requires c = ((parties_good c.args.program.now _ (sym c.parties_of.ensures ∙ c.in-Some.is)).1, omega (arith, c.loop-at.invariant.near, c.loop-at.invariant.few), c.loop-at-test.true)

pub returns-in_default-record_at : goal.returns-in_default-record_at
returns-in_default-record_at c = let p = c.args.program.now in answer_bad p _ (sym c.parties_of.ensures ∙ c.in-Some.is) _ (going_bad p _ _ _ _ c.loop-at.invariant c.loop-at-test.true (sym c.record_at.ensures ∙ c.in_default-record_at.is))

pub overflow_add-own : goal.overflow_add-own
overflow_add-own c = omega (arith, c.loop-at.invariant.few)

pub loop-at-smaller : goal.loop-at-smaller
loop-at-smaller c = let s = scan_good c.args.program.now _ _ _ c.loop-at-test.true _ _ (sym c.record_at.ensures ∙ c.in-Some-record_at.is) in omega (arith, s.onward, s.inside)

pub loop-at-preserved : goal.loop-at-preserved
loop-at-preserved c = rw c.greater-reach.ensures (going_on c.args.program.now _ _ _ _ c.loop-at.invariant c.loop-at-test.true _ _ (sym c.record_at.ensures ∙ c.in-Some-record_at.is))

pub returns-then-own-eq0 : goal.returns-then-own-eq0
returns-then-own-eq0 c = let p = c.args.program.now in answer_bad p _ (sym c.parties_of.ensures ∙ c.in-Some.is) _ (going_none p _ _ _ _ c.loop-at.invariant c.loop-at-test.false c.if-own-eq0.true)

pub overflow_cast-nodes : goal.overflow_cast-nodes
overflow_cast-nodes c = omega (arith, c.loop-at.invariant.few)

pub returns-then-reach-own : goal.returns-then-reach-own
returns-then-reach-own c = let p = c.args.program.now in answer_is p _ (sym c.parties_of.ensures ∙ c.in-Some.is) _ (going_good p _ _ _ _ c.loop-at.invariant c.loop-at-test.false (omega arith) c.if-reach-own.true)

pub lost_call-requires : goal.lost_call-requires
lost_call-requires c = let p = c.args.program.now in ((parties_good p _ (sym c.parties_of.ensures ∙ c.in-Some.is)).1, going_lost p _ _ _ _ c.loop-at.invariant c.loop-at-test.false c.if-reach-own.false)

pub returns : goal.returns
returns c = answer_bad c.args.program.now _ (sym c.parties_of.ensures ∙ c.in-Some.is) _ c.lost_call.ensures
