-- `numbers::integers::sub` meets its contract. Assumes nothing.
use lib.IntN.{ℤ, ◌-ℤ◌}
use Rattle.numbers.specs.Integers.{operate}
use Rattle.numbers.proofs.FitLaws.{cast_fits, operands_fit, result_is, diff_fits}
use Rattle.numbers.proofs.integers.sub.Goals as goal

pub overflow_cast-x : goal.overflow_cast-x
overflow_cast-x c = cast_fits c.args.x c.ranges.x

pub overflow_cast-y : goal.overflow_cast-y
overflow_cast-y c = cast_fits c.args.y c.ranges.y

pub overflow_sub-x : goal.overflow_sub-x
overflow_sub-x c = operands_fit _ _ c.ranges.x c.ranges.y (λ (a b : ℤ). a -ℤ b) (diff_fits _ _ c.ranges.x c.ranges.y)

pub returns : goal.returns
unfolding operate
returns c =
    let k = c.ranges in
    result_is _ _ k.x k.y (λ (a b : ℤ). a -ℤ b) (diff_fits _ _ k.x k.y) _ (record { sfits = c.reduce.type_inv }) c.reduce.ensures
