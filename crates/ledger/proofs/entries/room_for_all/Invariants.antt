-- `ledger::entries::room_for_all`: what its loop keeps.
use Rattle.parties.specs.Sets.{meet, all}
use Rattle.parties.proofs.LoopLaws.{LeftAt}
use Rattle.ledger.proofs.RoomLaws.{Fit}
use Rattle.ledger.proofs.entries.room_for_all.Given as goal

abbrev pub invariant-loop-p : goal.invariant-loop-p
invariant-loop-p l = let s = meet l.fn.m (all l.n) in LeftAt s l.n (Fit l.room l.those l.own l.other l.lengths s) l.p-iterator.left
