-- `threadmolar::walking::fields_of` meets its contract. Assumes nothing.
use native.Mathlib.Omega.{arith}
use Rattle.numbers.proofs.IntegerLaws.{read32}
use Rattle.threadmolar.specs.Walks.{fields_of}
use Rattle.threadmolar.proofs.walking.fields_of.Goals as goal

pub returns-in-Read : goal.returns-in-Read
unfolding fields_of
returns-in-Read c = rw c.in-Read.is (simp (read32 c.in-Read.i (record { sfits = omega arith })) at c.new.ensures)

pub returns-in-Wrote : goal.returns-in-Wrote
unfolding fields_of
returns-in-Wrote c = rw c.in-Wrote.is (simp (read32 c.in-Wrote.i (record { sfits = omega arith })) at c.new-in-Wrote.ensures)

pub returns-in-Shared : goal.returns-in-Shared
unfolding fields_of
returns-in-Shared c = rw c.in-Shared.is c.new-in-Shared.ensures

pub returns-in-Opened : goal.returns-in-Opened
unfolding fields_of
returns-in-Opened c = rw c.in-Opened.is (simp (read32 c.in-Opened.i (record { sfits = omega arith })) at c.new-in-Opened.ensures)

pub returns-in-Passed : goal.returns-in-Passed
unfolding fields_of
returns-in-Passed c = rw c.in-Passed.is c.new-in-Passed.ensures

pub returns-in-Finished : goal.returns-in-Finished
unfolding fields_of
returns-in-Finished c = rw c.in-Finished.is (simp (read32 c.in-Finished.i (record { sfits = omega arith })) at c.new-in-Finished.ensures)

pub returns-in-Stopped : goal.returns-in-Stopped
unfolding fields_of
returns-in-Stopped c = rw c.in-Stopped.is c.new-in-Stopped.ensures
