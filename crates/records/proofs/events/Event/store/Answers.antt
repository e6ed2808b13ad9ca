-- `records::events::Event::store` meets its contract. Assumes nothing.
use native.Mathlib.Omega.{arith}
use Rattle.numbers.proofs.IntegerLaws.{read32}
use Rattle.records.specs.Events.{event_bytes}
use Rattle.records.proofs.StoreLaws.{room_for, stored_is}
use Rattle.records.proofs.events.Event.store.Goals as goal

pub store_byte_and_integer-requires : goal.store_byte_and_integer-requires
store_byte_and_integer-requires c = room_for _ _ c.in-Read.is _ _ c.requires

pub store_byte_and_integer-requires-in-Wrote : goal.store_byte_and_integer-requires-in-Wrote
store_byte_and_integer-requires-in-Wrote c = room_for _ _ c.in-Wrote.is _ _ c.requires

pub store_shared-requires : goal.store_shared-requires
store_shared-requires c = room_for _ _ c.in-Shared.is _ _ c.requires

pub store_opened-requires : goal.store_opened-requires
store_opened-requires c = room_for _ _ c.in-Opened.is _ _ c.requires

pub store_byte_and_set-requires : goal.store_byte_and_set-requires
store_byte_and_set-requires c = room_for _ _ c.in-Passed.is _ _ c.requires

pub store_finished-requires : goal.store_finished-requires
store_finished-requires c = room_for _ _ c.in-Finished.is _ _ c.requires

pub store_stopped-requires : goal.store_stopped-requires
store_stopped-requires c = room_for _ _ c.in-Stopped.is _ _ c.requires

pub returns-in-Read : goal.returns-in-Read
unfolding event_bytes
returns-in-Read c = stored_is _ _ c.in-Read.is _ _ c.args.at (simp (read32 c.in-Read.i (record { sfits = omega arith })) at c.store_byte_and_integer.ensures)

pub returns-in-Wrote : goal.returns-in-Wrote
unfolding event_bytes
returns-in-Wrote c = stored_is _ _ c.in-Wrote.is _ _ c.args.at (simp (read32 c.in-Wrote.i (record { sfits = omega arith })) at c.store_byte_and_integer-in-Wrote.ensures)

pub returns-in-Passed : goal.returns-in-Passed
unfolding event_bytes
returns-in-Passed c = stored_is _ _ c.in-Passed.is _ _ c.args.at c.store_byte_and_set.ensures
