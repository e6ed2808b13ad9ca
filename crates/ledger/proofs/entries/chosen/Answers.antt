-- `ledger::entries::chosen` meets its contract. Assumes nothing.
use Rattle.ledger.proofs.entries.chosen.Goals as goal

pub returns-then-has : goal.returns-then-has
returns-then-has c = rw (← c.has.ensures, c.if-has.true)

pub returns-else-has : goal.returns-else-has
returns-else-has c = rw (← c.has.ensures, c.if-has.false)
