-- `text::decimals::put_decimal` meets its contract. Assumes nothing.
use mathlib.Core.Path.{refl}
use native.Mathlib.Omega.{arith}
use lib.ListN.{length-set}
use Rattle.text.specs.TextLaws.{decimal_short}
use Rattle.text.proofs.DecimalLaws.{found_none, found_before, found_more, found_all}
use Rattle.text.proofs.decimals.put_decimal.Goals as goal

pub loop-left-init : goal.loop-left-init
loop-left-init c = found_none _ _ refl (omega arith)

pub overflow_sub-first : goal.overflow_sub-first
overflow_sub-first c = omega (arith, found_before _ _ _ _ c.loop-left.invariant c.loop-left-test.true)

pub loop-left-smaller : goal.loop-left-smaller
loop-left-smaller c = omega (arith, found_before _ _ _ _ c.loop-left.invariant c.loop-left-test.true)

pub loop-left-preserved : goal.loop-left-preserved
loop-left-preserved c = found_more _ _ _ _ c.loop-left.invariant c.loop-left-test.true

pub slice_bounds-put-end : goal.slice_bounds-put-end
slice_bounds-put-end c = simp length-set (omega (arith, c.loop-left.invariant.wide))

pub put-requires : goal.put-requires
put-requires c = rw (found_all _ _ _ _ c.loop-left.invariant c.loop-left-test.false) (omega (arith, decimal_short c.args.n))

pub returns : goal.returns
returns c = rw (found_all _ _ _ _ c.loop-left.invariant c.loop-left-test.false) at c.put.ensures
