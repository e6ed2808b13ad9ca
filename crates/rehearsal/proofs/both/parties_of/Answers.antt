-- `rehearsal::both::parties_of` meets its contract. Assumes nothing.
use mathlib.Core.Path.{sym, ap, ◌∙◌}
use Rattle.program.specs.Answer.{told}
use Rattle.rehearsal.specs.Both.{parties_of}
use Rattle.rehearsal.proofs.both.parties_of.Goals as goal

pub returns-in-Ok : goal.returns-in-Ok
returns-in-Ok c = ap parties_of (sym (ap told c.in-Ok.is) ∙ c.check.ensures)

pub returns-in-Err : goal.returns-in-Err
returns-in-Err c = ap parties_of (sym (ap told c.in-Err.is) ∙ c.check.ensures)
