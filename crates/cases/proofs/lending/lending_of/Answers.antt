-- `cases::lending::lending_of` meets its contract. Assumes nothing.
use native.Mathlib.Omega.{arith}
use Rattle.cases.specs.Lending.{lending_of}
use Rattle.cases.proofs.lending.lending_of.Goals as goal

pub overflow_cast-head : goal.overflow_cast-head
overflow_cast-head c = omega (arith, c.shared_slice_known-2-1.given 4)

pub returns : goal.returns
unfolding lending_of
returns c = rw (c.up_to-4.ensures, c.load4-3.ensures, c.up_to-3.ensures, c.load4-2.ensures, c.up_to-2.ensures, c.up_to.ensures, c.load4.ensures)
