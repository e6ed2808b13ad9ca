-- `values::value::Value::slice` meets its contract. Assumes nothing.
use mathlib.Core.Path.{sym, ◌∙◌}
use Rattle.values.specs.Values.{slice}
use Rattle.values.proofs.value.Value.slice.Goals as goal

pub returns-then-has : goal.returns-then-has
unfolding slice
returns-then-has c = rw (← c.place.ensures, sym c.has.ensures ∙ c.if-has.true)

pub returns-else-has : goal.returns-else-has
unfolding slice
returns-else-has c = rw (← c.place.ensures, sym c.has.ensures ∙ c.if-has.false)
