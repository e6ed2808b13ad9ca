-- `cells::store_cell` meets its contract. Assumes nothing.
use native.Mathlib.Omega.{arith}
use lib.ListN.{length-set}
use Rattle.cells.proofs.CellLaws.{cell_written}
use Rattle.cells.proofs.store_cell.Goals as goal

pub store_integer-requires : goal.store_integer-requires
store_integer-requires c = simp length-set (omega arith)

pub store_set-requires : goal.store_set-requires
store_set-requires c = simp (c.store_integer.auto.s, length-set) (omega arith)

pub store_set-requires-2 : goal.store_set-requires-2
store_set-requires-2 c = simp (c.store_set.auto.s, c.store_integer.auto.s, length-set) (omega arith)

pub returns : goal.returns
returns c = let a = c.args in
    cell_written a.s.now _ _ _ a.at a.sort a.i a.l a.h c.ranges.i c.store_integer.ensures c.store_set.ensures c.store_set-2.ensures
