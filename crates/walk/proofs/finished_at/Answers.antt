-- `walk::finished_at` meets its contract. Assumes nothing.
use native.Mathlib.Nat.{add-zero}
use lib.Seq.{get_or-drop}
use Rattle.numbers.proofs.IntegerLaws.{read32}
use Rattle.walk.specs.Walk.{event_from}
use Rattle.walk.proofs.StepLaws.{number_dropped}
use Rattle.walk.proofs.finished_at.Goals as goal

pub returns : goal.returns
unfolding event_from
returns c = rw (read32 _ (record { sfits = c.load_integer-i.type_inv }), c.load_integer-i.ensures, c.load_set-l.ensures, c.load_set-h.ensures) (simp (get_or-drop, number_dropped, add-zero))
