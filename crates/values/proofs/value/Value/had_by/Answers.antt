-- `values::value::Value::had_by` meets its contract. Assumes nothing.
use Rattle.numbers.proofs.IntegerLaws.{read32}
use Rattle.values.specs.Values.{had_by}
use Rattle.values.proofs.value.Value.had_by.Goals as goal

pub returns-then-secret : goal.returns-then-secret
unfolding had_by
returns-then-secret c = rw (read32 c.args.i c.ranges.i, c.if-secret.true)

pub returns-else-secret : goal.returns-else-secret
unfolding had_by
returns-else-secret c = rw (read32 c.args.i c.ranges.i, c.if-secret.false)
