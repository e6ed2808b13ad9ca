-- `cases::rows::load_counts` meets its contract. Assumes nothing.
use mathlib.Core.Path.{refl}
use native.Mathlib.Omega.{arith}
use Rattle.cases.specs.Rows.{row, numbers_at}
use Rattle.cases.proofs.FillLaws.{filled_more, filled_all}
use Rattle.cases.proofs.rows.load_counts.Goals as goal

pub loop-i-init : goal.loop-i-init
unfolding numbers_at row
loop-i-init c = refl

pub loop-i-preserved : goal.loop-i-preserved
unfolding numbers_at
loop-i-preserved c = filled_more _ _ _ _ c.loop-i.invariant _ c.loop-i-test.true (c.load2.ensures)

pub returns : goal.returns
unfolding numbers_at
returns c = filled_all _ _ _ _ c.loop-i.invariant (omega arith)
