-- `numbers::integers::eq` meets its contract. Assumes nothing.
use Rattle.numbers.specs.Integers.{operate}
use Rattle.numbers.proofs.OperationLaws.{bits_same, bits_other}
use Rattle.numbers.proofs.integers.eq.Goals as goal

pub returns-then-x-y : goal.returns-then-x-y
unfolding operate
returns-then-x-y c = rw (bits_same c.args.x c.args.y c.ranges.x c.ranges.y c.if-x-y.true)

pub returns-else-x-y : goal.returns-else-x-y
unfolding operate
returns-else-x-y c = rw (bits_other c.args.x c.args.y c.if-x-y.false)
