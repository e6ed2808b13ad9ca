-- `ledger::entries::may_note` meets its contract. Assumes nothing.
use mathlib.Core.Path.{◌∙◌}
use Rattle.ledger.proofs.entries.may_note.Goals as goal

pub returns-then-has : goal.returns-then-has
returns-then-has c = c.fits.ensures ∙ rw (← c.has.ensures, c.if-has.true)

pub returns-else-has : goal.returns-else-has
returns-else-has c = c.fits-else-has.ensures ∙ rw (← c.has.ensures, c.if-has.false)
