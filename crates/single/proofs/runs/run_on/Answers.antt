-- `single::runs::run_on` meets its contract. Assumes nothing.
use mathlib.Core.Path.{refl, ◌∙◌}
use native.Mathlib.Omega.{arith}
use Rattle.single.proofs.RunLaws.{going_start, stride_on, stride_end, stride_stop, goes_out}
use Rattle.single.proofs.runs.run_on.Invariants.{lists}
use Rattle.single.proofs.runs.run_on.Goals as goal

pub loop-k-init : goal.loop-k-init
loop-k-init c = let a = c.args in
    (going_start a.program.now a.nodes a.room a.n a.inputs.now a.end.now a.budget a.start (lists a.at.now a.bytes.now a.lengths.now a.work.now), refl, refl, refl, refl)

pub overflow_sub-budget : goal.overflow_sub-budget
overflow_sub-budget c = omega (arith, c.loop-k-test.true)

pub step-stride-requires : goal.step-stride-requires
step-stride-requires c = let p = c.requires in
    let v = c.loop-k.invariant in
    (omega (arith, c.loop-k-test.true), p.0, omega (arith, p.1, v.2), omega (arith, p.2, v.3), omega (arith, p.3, v.4), omega (arith, p.4, v.1), p.5, p.6)

pub overflow_add-k : goal.overflow_add-k
overflow_add-k c = omega (arith, c.step-stride.ensures.0, c.loop-k-test.true, c.ranges.budget)

pub overflow_add-result : goal.overflow_add-result
overflow_add-result c = omega (arith, c.step-stride.ensures.0, c.loop-k-test.true, c.ranges.budget)

pub returns-in-Ended : goal.returns-in-Ended
returns-in-Ended c = let a = c.args in
    stride_end a.program.now a.nodes a.room a.n a.inputs.now a.end.now a.budget a.start (lists a.at.now a.bytes.now a.lengths.now a.work.now) c.loop-k.t c.loop-k.k (lists c.loop-k.at c.loop-k.bytes c.loop-k.lengths c.loop-k.work) (lists c.step-stride.new.at c.step-stride.new.bytes c.step-stride.new.lengths c.step-stride.new.work) c.step-stride.result c.loop-k.invariant.0 c.requires.6 c.loop-k-test.true c.step-stride.ensures c.in-Ended.is

pub returns-in-Stopped : goal.returns-in-Stopped
returns-in-Stopped c = let a = c.args in
    stride_stop a.program.now a.nodes a.room a.n a.inputs.now a.end.now a.budget a.start (lists a.at.now a.bytes.now a.lengths.now a.work.now) c.loop-k.t c.loop-k.k (lists c.loop-k.at c.loop-k.bytes c.loop-k.lengths c.loop-k.work) (lists c.step-stride.new.at c.step-stride.new.bytes c.step-stride.new.lengths c.step-stride.new.work) c.step-stride.result c.loop-k.invariant.0 c.requires.6 c.loop-k-test.true c.step-stride.ensures _ c.in-Stopped.is

pub overflow_add-k-in-loop-k : goal.overflow_add-k-in-loop-k
overflow_add-k-in-loop-k c = omega (arith, c.step-stride.ensures.0, c.loop-k-test.true, c.ranges.budget)

pub loop-k-smaller : goal.loop-k-smaller
loop-k-smaller c = omega (arith, c.step-stride.ensures.0, c.loop-k-test.true)

pub loop-k-preserved : goal.loop-k-preserved
loop-k-preserved c = let a = c.args in
    (stride_on a.program.now a.nodes a.room a.n a.inputs.now a.end.now a.budget a.start (lists a.at.now a.bytes.now a.lengths.now a.work.now) c.loop-k.t c.loop-k.k (lists c.loop-k.at c.loop-k.bytes c.loop-k.lengths c.loop-k.work) (lists c.step-stride.new.at c.step-stride.new.bytes c.step-stride.new.lengths c.step-stride.new.work) c.step-stride.result c.loop-k.invariant.0 c.requires.6 c.loop-k-test.true c.step-stride.ensures _ c.in-On.is, c.step-stride.auto.at ∙ c.loop-k.invariant.1, c.step-stride.auto.bytes ∙ c.loop-k.invariant.2, c.step-stride.auto.lengths ∙ c.loop-k.invariant.3, c.step-stride.auto.work ∙ c.loop-k.invariant.4)

pub returns : goal.returns
returns c = let a = c.args in
    goes_out a.program.now a.nodes a.room a.n a.inputs.now a.end.now a.budget a.start (lists a.at.now a.bytes.now a.lengths.now a.work.now) c.loop-k.t c.loop-k.k (lists c.loop-k.at c.loop-k.bytes c.loop-k.lengths c.loop-k.work) c.loop-k.invariant.0 (omega (arith, c.loop-k-test.false))
