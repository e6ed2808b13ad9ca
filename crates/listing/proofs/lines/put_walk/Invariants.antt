-- `listing::lines::put_walk`: what its loop keeps.
use Prim.Native.Nat.{◌-◌}
use lib.ListN.{length}
use Rattle.listing.proofs.WalkedLaws.{Shown}
use Rattle.listing.proofs.lines.put_walk.Given as goal

abbrev pub invariant-loop-next : goal.invariant-loop-next
invariant-loop-next l = Shown l.bytes l.start l.initial.to l.to l.initial.out l.out

abbrev pub decreases-loop-next : goal.decreases-loop-next
decreases-loop-next l = length l.bytes - l.start
