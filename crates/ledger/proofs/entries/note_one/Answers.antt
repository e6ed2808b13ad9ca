-- `ledger::entries::note_one` meets its contract. Assumes nothing.
use mathlib.Core.Path.{sym, ap}
use Prim.Native.Nat.{◌+◌, ◌≤◌}
use native.Mathlib.Omega.{arith}
use lib.ListN.{length, get_or}
use Rattle.records.specs.Events.{event_bytes}
use Rattle.ledger.proofs.WriteLaws.{area_length, wrote}
use Rattle.ledger.proofs.entries.note_one.Goals as goal

pub store-requires : goal.store-requires
store-requires c =
    let fits : (get_or c.args.lengths.now c.args.p 0 + length (event_bytes c.chosen-ev.result) ≤ c.args.room) = rw c.chosen-ev.ensures c.requires.2 in
    rw (area_length _ _ _ c.requires.0) fits

pub overflow_add-lengths : goal.overflow_add-lengths
overflow_add-lengths c =
    let fits : (get_or c.args.lengths.now c.args.p 0 + length (event_bytes c.chosen-ev.result) ≤ c.args.room) = rw c.chosen-ev.ensures c.requires.2 in
    omega (arith, c.size.ensures, fits)

pub returns : goal.returns
returns c =
    let fits : (get_or c.args.lengths.now c.args.p 0 + length (event_bytes c.chosen-ev.result) ≤ c.args.room) = rw c.chosen-ev.ensures c.requires.2 in
    let a = c.args in
    wrote a.room a.p a.bytes.now a.lengths.now c.store.new.s c.requires.0 _ (event_bytes c.chosen-ev.result) _ (sym (ap event_bytes c.chosen-ev.ensures)) c.store.ensures fits (omega (arith, c.size.ensures))
