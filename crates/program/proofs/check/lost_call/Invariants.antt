-- `program::check::lost_call`: what its loop keeps.
use Prim.Native.Nat.{◌-◌}
use lib.ListN.{length}
use Rattle.program.proofs.LostLaws.{Seeking}
use Rattle.program.proofs.check.lost_call.Given as goal

abbrev pub invariant-loop-at : goal.invariant-loop-at
invariant-loop-at l = Seeking l.program l.n l.nodes l.own l.at

abbrev pub decreases-loop-at : goal.decreases-loop-at
decreases-loop-at l = length l.program - l.at
