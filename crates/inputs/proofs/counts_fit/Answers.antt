-- `inputs::counts_fit` meets its contract. Assumes nothing.
use Prim.Native.Nat.{◌+◌}
use native.Mathlib.Omega.{arith}
use Rattle.inputs.proofs.InputLaws.{sum_take_none, sum_take_suc, sum_take_le}
use Rattle.inputs.proofs.counts_fit.Goals as goal

pub loop-count-init : goal.loop-count-init
loop-count-init c = omega (arith, sum_take_none c.args.counts.now)

pub returns-in_default : goal.returns-in_default
returns-in_default c =
    let a = c.args in
    let k = c.loop-count.count-index in
    grind (arith, c.in_default.ensures, sum_take_suc a.counts.now k (omega arith), sum_take_le a.counts.now (k + 1))

pub loop-count-preserved : goal.loop-count-preserved
loop-count-preserved c = omega (arith, sum_take_suc c.args.counts.now c.loop-count.count-index (omega arith), c.in-Some.ensures)
