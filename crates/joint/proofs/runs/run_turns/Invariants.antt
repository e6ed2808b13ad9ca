-- `joint::runs::run_turns`: what its loop keeps.
use Prim.Native.Nat.{◌-◌}
use lib.ListN.{length}
use Rattle.joint.proofs.TurnLaws.{Going}
use Rattle.joint.proofs.runs.run_turns.Given as goal

abbrev pub invariant-loop-j : goal.invariant-loop-j
invariant-loop-j l =
    Going l.program l.nodes l.turns l.n l.room l.inputs l.end l.initial.at l.initial.bytes l.initial.lengths l.initial.work l.j l.count l.at l.bytes l.lengths l.work

abbrev pub decreases-loop-j : goal.decreases-loop-j
decreases-loop-j l =
    length l.turns - l.j
