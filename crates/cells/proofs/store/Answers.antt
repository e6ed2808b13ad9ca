-- `cells::store` meets its contract. Assumes nothing.
use Rattle.cells.specs.Cells.{cell_bytes}
use Rattle.cells.proofs.store.Goals as goal

pub returns-in-None : goal.returns-in-None
unfolding cell_bytes
returns-in-None c = record { s_after = rw c.in-None.is c.store_cell.ensures; ranged = rw c.in-None.is tt }

pub returns-in-Some : goal.returns-in-Some
returns-in-Some c = record { s_after = rw c.in-Some.is c.store_value.ensures.s_after; ranged = rw c.in-Some.is c.store_value.ensures.ranged_value }
