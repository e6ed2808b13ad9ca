-- `party_rules::par` meets its contract. Assumes nothing.
use mathlib.Core.Path.{sym, ◌∙◌}
use Rattle.party_rules.proofs.par.Goals as goal

pub returns-then-goes_in : goal.returns-then-goes_in
returns-then-goes_in c = rw (sym c.goes_in.ensures ∙ c.if-goes_in.true, c.meet.ensures)

pub returns-else-goes_in : goal.returns-else-goes_in
returns-else-goes_in c = rw (sym c.goes_in.ensures ∙ c.if-goes_in.false)
