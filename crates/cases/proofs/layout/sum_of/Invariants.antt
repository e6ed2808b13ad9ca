-- `cases::layout::sum_of`: what its loop keeps.
use mathlib.Core.Path.{◌≡◌}
use Prim.Native.Nat.{◌*◌, ◌≤◌}
use Rattle.cases.specs.Rows.{numbers_at, sum}
use Rattle.cases.proofs.layout.sum_of.Given as goal

abbrev pub invariant-loop-i : goal.invariant-loop-i
invariant-loop-i l = (l.s ≡ sum (numbers_at 2 l.i l.text l.at)) × (l.s ≤ 65535 * l.i)
