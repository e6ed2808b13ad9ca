-- `cases::layout::sum_of` meets its contract. Assumes nothing.
use native.Mathlib.Omega.{arith}
use Rattle.cases.proofs.RowLaws.{sum_none, sum_more}
use Rattle.cases.proofs.layout.sum_of.Goals as goal

pub loop-i-init : goal.loop-i-init
loop-i-init c = (omega (arith, sum_none 2 c.args.text.now c.args.at), omega arith)

pub loop-i-preserved : goal.loop-i-preserved
loop-i-preserved c = (omega (arith, sum_more 2 c.loop-i.i c.args.text.now c.args.at), omega arith)
