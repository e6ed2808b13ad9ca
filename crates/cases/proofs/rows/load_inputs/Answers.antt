-- `cases::rows::load_inputs` meets its contract. Assumes nothing.
use mathlib.Core.Path.{refl, ◌∙◌}
use native.Mathlib.Omega.{arith}
use Rattle.numbers.proofs.IntegerLaws.{read32}
use Rattle.cases.specs.Rows.{row, integers_at}
use Rattle.cases.proofs.FillLaws.{filled_more, filled_all}
use Rattle.cases.proofs.rows.load_inputs.Goals as goal

pub loop-i-init : goal.loop-i-init
unfolding integers_at row
loop-i-init c = refl

pub loop-i-preserved : goal.loop-i-preserved
unfolding integers_at
loop-i-preserved c = filled_more _ _ _ _ c.loop-i.invariant _ c.loop-i-test.true (read32 c.load_integer.result (record { sfits = c.load_integer.type_inv }) ∙ c.load_integer.ensures)

pub returns : goal.returns
unfolding integers_at
returns c = filled_all _ _ _ _ c.loop-i.invariant (omega arith)
