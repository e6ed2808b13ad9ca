-- `values::value::Value::place` meets its contract. Assumes nothing.
use Rattle.values.specs.Values.{place}
use Rattle.values.proofs.value.Value.place.Goals as goal

pub returns-in-Nothing : goal.returns-in-Nothing
unfolding place
returns-in-Nothing c = rw c.in-Nothing.is

pub returns-in-Clear : goal.returns-in-Clear
unfolding place
returns-in-Clear c = rw c.in-Clear.is

pub returns-in-Share : goal.returns-in-Share
unfolding place
returns-in-Share c = rw c.in-Share.is
