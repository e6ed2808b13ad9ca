-- `program::fields::full_set` meets its contract. Assumes nothing.
use Rattle.program.proofs.fields.full_set.Goals as goal

pub returns : goal.returns
returns c = rw (c.is_empty.ensures, c.within.ensures, c.set_at-q.ensures)
