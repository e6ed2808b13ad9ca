-- `ledger::entries::finish_all`: what its loop keeps.
use Rattle.ledger.proofs.LedgerLaws.{Going}
use Rattle.ledger.specs.Writes.{finishing}
use Rattle.ledger.proofs.entries.finish_all.Given as goal

abbrev pub invariant-loop-p : goal.invariant-loop-p
invariant-loop-p l = Going l.room l.n (finishing l.room l.v) l.initial.bytes l.initial.lengths l.p l.bytes l.lengths
