-- `stretches::copy_within`: what its loop keeps.
use mathlib.Core.Path.{◌≡◌}
use lib.ListN.{length}
use Rattle.stretches.specs.Stretches.{copied}
use Rattle.stretches.proofs.copy_within.Given as goal

abbrev pub invariant-loop-i : goal.invariant-loop-i
invariant-loop-i l = (length l.s ≡ length l.initial.s) × (l.s ≡ copied l.initial.s l.from l.to l.i)
