-- `cells::store_value` meets its contract. Assumes nothing.
use native.Mathlib.Omega.{arith}
use Rattle.numbers.proofs.IntegerLaws.{read32}
use Rattle.cells.specs.Cells.{cell_bytes}
use Rattle.cells.proofs.store_value.Goals as goal

pub returns-in-Nothing : goal.returns-in-Nothing
unfolding cell_bytes
returns-in-Nothing c = record { s_after = rw c.in-Nothing.is c.store_cell.ensures; ranged_value = rw c.in-Nothing.is tt }

pub returns-in-Clear : goal.returns-in-Clear
unfolding cell_bytes
returns-in-Clear c = let k = read32 c.in-Clear.i (record { sfits = omega arith }) in
    record { s_after = rw c.in-Clear.is (simp k at c.store_cell-in-Clear.ensures); ranged_value = rw c.in-Clear.is (record { sfits = omega arith }, omega arith) }

pub returns-in-Share : goal.returns-in-Share
unfolding cell_bytes
returns-in-Share c = let k = read32 c.in-Share.i (record { sfits = omega arith }) in
    record { s_after = rw c.in-Share.is (simp k at c.store_cell-in-Share.ensures); ranged_value = rw c.in-Share.is (record { sfits = omega arith }, omega arith, omega arith) }
