-- `program::check::check`: what its loop keeps.
use Prim.Native.Nat.{◌-◌}
use lib.ListN.{length}
use Rattle.program.proofs.CheckLaws.{Going}
use Rattle.program.proofs.check.check.Given as goal

abbrev pub invariant-loop-at : goal.invariant-loop-at
invariant-loop-at l = Going l.program l.parties l.own l.at l.reach

abbrev pub decreases-loop-at : goal.decreases-loop-at
decreases-loop-at l = length l.program - l.at
