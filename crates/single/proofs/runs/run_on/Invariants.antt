-- `single::runs::run_on`: what its loop keeps.
use mathlib.Core.Path.{◌≡◌}
use mathlib.Core.List.{List}
use Prim.Native.Nat.{ℕ, ◌-◌}
use lib.ListN.{length}
use Rattle.single_step.specs.Steps.{Lists}
use Rattle.single.proofs.RunLaws.{Going}
use Rattle.single.proofs.runs.run_on.Given as goal

abbrev pub lists : List ℕ → List ℕ → List ℕ → List ℕ → Lists
lists at bytes lengths work = record { bytes = bytes; lengths = lengths; work = work; at = at }

abbrev pub invariant-loop-k : goal.invariant-loop-k
invariant-loop-k l =
    Going l.program l.nodes l.room l.n l.inputs l.end l.budget l.initial.t (lists l.initial.at l.initial.bytes l.initial.lengths l.initial.work) l.t l.k (lists l.at l.bytes l.lengths l.work)
    × (length l.at ≡ length l.initial.at)
    × (length l.bytes ≡ length l.initial.bytes)
    × (length l.lengths ≡ length l.initial.lengths)
    × (length l.work ≡ length l.initial.work)

abbrev pub decreases-loop-k : goal.decreases-loop-k
decreases-loop-k l = l.budget - l.k
