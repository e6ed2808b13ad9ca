-- `records::events::Event::close` meets its contract. Assumes nothing.
use native.Mathlib.Omega.{arith}
use Rattle.records.specs.EventLaws.{event_short}
use Rattle.records.proofs.events.Event.close.Goals as goal

pub store-requires : goal.store-requires
store-requires c = omega (arith, event_short c.args.self)

pub overflow_add-result : goal.overflow_add-result
overflow_add-result c = omega (arith, event_short c.args.self, c.size.ensures)
