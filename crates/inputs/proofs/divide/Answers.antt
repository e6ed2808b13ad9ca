-- `inputs::divide` meets its contract. Assumes nothing.
use native.Mathlib.Omega.{arith}
use Rattle.inputs.proofs.InputLaws.{divide_none, divide_more, sum_next}
use Rattle.inputs.proofs.divide.Goals as goal

pub loop-k-init : goal.loop-k-init
loop-k-init c = divide_none c.args.counts.now c.args.at.now c.args.end.now

pub overflow_add-s : goal.overflow_add-s
overflow_add-s c =
    let a = c.args in
    let l = c.loop-k in
    omega (arith, sum_next a.counts.now a.at.now a.end.now l.k l.s l.at l.end (omega arith) l.invariant)

pub loop-k-preserved : goal.loop-k-preserved
loop-k-preserved c =
    let a = c.args in
    let l = c.loop-k in
    divide_more a.counts.now a.at.now a.end.now l.k l.s l.at l.end (omega arith) l.invariant (omega arith) (omega arith)
