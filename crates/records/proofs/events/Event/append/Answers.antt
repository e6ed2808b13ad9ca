-- `records::events::Event::append` meets its contract. Assumes nothing.
use native.Mathlib.Omega.{arith}
use lib.ListN.{length}
use Rattle.records.proofs.StoreLaws.{has_fits}
use Rattle.records.proofs.events.Event.append.Goals as goal

pub store-requires : goal.store-requires
store-requires c = let a = c.args in omega (arith, has_fits (length a.s.now) a.used a.self c.has_room.result c.has_room.ensures c.if-has_room.true)

pub overflow_add-result : goal.overflow_add-result
overflow_add-result c = let a = c.args in omega (arith, c.size.ensures, has_fits (length a.s.now) a.used a.self c.has_room.result c.has_room.ensures c.if-has_room.true)
