-- `values::value::Value::moved` meets its contract. Assumes nothing.
use native.Mathlib.Omega.{arith}
use Rattle.numbers.proofs.IntegerLaws.{read32}
use Rattle.values.specs.Values.{moved}
use Rattle.values.proofs.value.Value.moved.Goals as goal

pub returns-in-Nothing : goal.returns-in-Nothing
unfolding moved
returns-in-Nothing c = rw c.in-Nothing.is

pub returns-in-Clear : goal.returns-in-Clear
unfolding moved
returns-in-Clear c = rw (read32 c.in-Clear.i (record { sfits = omega arith }), c.in-Clear.is)

pub returns-in-Share : goal.returns-in-Share
unfolding moved
returns-in-Share c = rw (read32 c.in-Share.i (record { sfits = omega arith }), c.in-Share.is)
