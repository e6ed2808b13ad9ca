-- `cells::load` meets its contract. Assumes nothing.
use borrow.Author.Tests.{ne_eqb}
use Rattle.numbers.proofs.IntegerLaws.{read32}
use Rattle.cells.specs.Cells.{cell_at}
use Rattle.cells.proofs.load.Goals as goal

pub returns-then-sort-eq0 : goal.returns-then-sort-eq0
unfolding cell_at
returns-then-sort-eq0 c = rw c.if-sort-eq0.true

pub returns-then-sort-eq1 : goal.returns-then-sort-eq1
unfolding cell_at
returns-then-sort-eq1 c = rw c.if-sort-eq1.true

pub returns-then-sort-eq2 : goal.returns-then-sort-eq2
unfolding cell_at
returns-then-sort-eq2 c = rw (read32 _ (record { sfits = c.load_integer-i.type_inv }), c.if-sort-eq2.true, c.load_integer-i.ensures, c.load_set-l.ensures)

pub returns : goal.returns
unfolding cell_at
returns c = rw (read32 _ (record { sfits = c.load_integer-i.type_inv }), ne_eqb _ _ c.if-sort-eq0.false, ne_eqb _ _ c.if-sort-eq1.false, ne_eqb _ _ c.if-sort-eq2.false, c.load_integer-i.ensures, c.load_set-l.ensures, c.load_set-h.ensures)
