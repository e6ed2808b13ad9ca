-- `program::check::lost_call` meets its contract. Assumes nothing.
use mathlib.Core.Path.{sym, ◌∙◌}
use native.Mathlib.Omega.{arith}
use Rattle.program.proofs.ScanSteps.{scan_good}
use Rattle.program.proofs.LostLaws.{seeking_start, seeking_end, seeking_bad, seeking_here, seeking_on}
use Rattle.program.proofs.check.lost_call.Goals as goal

pub loop-at-init : goal.loop-at-init
loop-at-init c = let a = c.args in seeking_start a.program.now a.n a.nodes c.requires.1

pub record_at-requires : goal.record_at-requires
record_at-requires c = (c.requires.0, omega (arith, c.loop-at.invariant.near, c.loop-at.invariant.few), c.loop-at-test.true)

pub returns-in_default : goal.returns-in_default
returns-in_default c = let a = c.args in absurd (seeking_bad a.program.now a.n a.nodes _ _ c.loop-at.invariant c.loop-at-test.true (sym c.record_at.ensures ∙ c.in_default.is))

pub returns-then-nodes-reach : goal.returns-then-nodes-reach
returns-then-nodes-reach c = let a = c.args in seeking_here a.program.now a.n a.nodes _ _ c.loop-at.invariant c.loop-at-test.true _ _ (sym c.record_at.ensures ∙ c.in-Some.is) c.if-nodes-reach.true

pub overflow_add-own : goal.overflow_add-own
overflow_add-own c = omega (arith, c.loop-at.invariant.few)

pub loop-at-smaller : goal.loop-at-smaller
loop-at-smaller c = let a = c.args in let s = scan_good a.program.now a.n _ _ c.loop-at-test.true _ _ (sym c.record_at.ensures ∙ c.in-Some.is) in omega (arith, s.onward, s.inside)

pub loop-at-preserved : goal.loop-at-preserved
loop-at-preserved c = let a = c.args in seeking_on a.program.now a.n a.nodes _ _ c.loop-at.invariant c.loop-at-test.true _ _ (sym c.record_at.ensures ∙ c.in-Some.is) c.if-nodes-reach.false

pub returns : goal.returns
returns c = let a = c.args in absurd (seeking_end a.program.now a.n a.nodes _ _ c.loop-at.invariant c.loop-at-test.false)
