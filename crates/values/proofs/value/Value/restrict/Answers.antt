-- `values::value::Value::restrict` meets its contract. Assumes nothing.
use mathlib.Core.Path.{sym, ◌∙◌}
use Rattle.values.specs.Values.{restrict}
use Rattle.values.proofs.value.Value.restrict.Goals as goal

pub returns-then-is_empty : goal.returns-then-is_empty
unfolding restrict
returns-then-is_empty c = rw (← c.place.ensures, ← c.meet-l.ensures, sym c.is_empty.ensures ∙ c.if-is_empty.true)

pub returns-else-is_empty : goal.returns-else-is_empty
unfolding restrict
returns-else-is_empty c = rw (← c.place.ensures, ← c.meet-l.ensures, sym c.is_empty.ensures ∙ c.if-is_empty.false) c.moved.ensures
