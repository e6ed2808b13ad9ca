-- `inputs::counts_fit`: what its loop keeps.
use mathlib.Core.Path.{◌≡◌}
use Prim.Native.Nat.{◌+◌}
use lib.ListN.{take}
use Rattle.rules.specs.Lent.{sum}
use Rattle.inputs.proofs.counts_fit.Given as goal

abbrev pub invariant-loop-count : goal.invariant-loop-count
invariant-loop-count l = sum (take l.count-index l.counts) + l.left ≡ l.inputs
