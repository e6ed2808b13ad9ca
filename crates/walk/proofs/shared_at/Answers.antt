-- `walk::shared_at` meets its contract. Assumes nothing.
use native.Mathlib.Nat.{add-zero}
use lib.Seq.{get_or-drop}
use Rattle.walk.specs.Walk.{event_from}
use Rattle.walk.proofs.StepLaws.{number_dropped}
use Rattle.walk.proofs.shared_at.Goals as goal

pub returns : goal.returns
unfolding event_from
returns c = rw c.load_set-q.ensures (simp (get_or-drop, number_dropped, add-zero))
