-- `places::next_at` meets its contract. Assumes nothing.
use Prim.Native.Nat.{◌+◌}
use mathlib.Core.Path.{sym, ◌∙◌}
use native.Mathlib.Nat.{add-zero}
use native.Mathlib.Omega.{arith}
use Rattle.program.proofs.RecordLaws.{body_at}
use Rattle.places.proofs.PlaceLaws.{length_below, next_from}
use Rattle.places.proofs.next_at.Goals as goal

pub overflow_add-result-in-Some : goal.overflow_add-result-in-Some
overflow_add-result-in-Some c = let a = c.args in omega (arith, length_below a.program.now a.at (body_at a.program.now a.at c.byte.ensures c.body_of.ensures c.in-Some.is))

pub returns-in-Some : goal.returns-in-Some
returns-in-Some c = let a = c.args in next_from a.program.now a.at (body_at a.program.now a.at c.byte.ensures c.body_of.ensures c.in-Some.is)

pub returns-in-None : goal.returns-in-None
returns-in-None c = let a = c.args in sym (add-zero (a.at + 1)) ∙ next_from a.program.now a.at (body_at a.program.now a.at c.byte.ensures c.body_of.ensures c.in-None.is)
