-- `walk::opened_at` meets its contract. Assumes nothing.
use native.Mathlib.Nat.{add-zero}
use Rattle.numbers.proofs.IntegerLaws.{read32}
use Rattle.walk.specs.Walk.{event_from}
use Rattle.walk.proofs.StepLaws.{number_dropped}
use Rattle.walk.proofs.opened_at.Goals as goal

pub returns : goal.returns
unfolding event_from
returns c = rw (read32 _ (record { sfits = c.load_integer-i.type_inv }), c.load_set-q.ensures, c.load_integer-i.ensures) (simp (number_dropped, add-zero))
