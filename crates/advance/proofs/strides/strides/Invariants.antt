-- `advance::strides::strides`: what its loop keeps.
use Prim.Native.Nat.{◌-◌, ◌<◌}
use Rattle.advance.specs.Strides.{Led}
use Rattle.advance.proofs.strides.strides.Given as goal

abbrev pub invariant-loop-next : goal.invariant-loop-next
invariant-loop-next l =
    (l.k < l.most) × Led l.joint l.turns l.program l.nodes l.first l.k l.initial.t l.initial.work l.t l.work

abbrev pub decreases-loop-next : goal.decreases-loop-next
decreases-loop-next l = l.most - l.k
