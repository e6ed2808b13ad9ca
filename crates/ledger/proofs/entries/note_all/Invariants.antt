-- `ledger::entries::note_all`: what its loop keeps.
use Rattle.parties.specs.Sets.{meet, all}
use Rattle.parties.proofs.LoopLaws.{LeftAt}
use Rattle.ledger.proofs.WriteLaws.{noting}
use Rattle.ledger.proofs.LedgerLaws.{Going}
use Rattle.ledger.proofs.entries.note_all.Given as goal

abbrev pub invariant-loop-p : goal.invariant-loop-p
invariant-loop-p l =
    let s = meet l.fn.m (all l.n) in
    LeftAt s l.n (λ k. Going l.room l.n (noting s l.those l.e l.other) l.initial.bytes l.initial.lengths k l.bytes l.lengths) l.p-iterator.left
