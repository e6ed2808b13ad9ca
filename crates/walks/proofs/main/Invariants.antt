-- The buffers keep their lengths. Assumes nothing.
use Rattle.std.proofs.Common.{◌≡◌, length}
use Rattle.walks.specs.Room.{room_out}
use Rattle.walks.proofs.main.Given as goal

abbrev pub invariant-loop-number : goal.invariant-loop-number
invariant-loop-number l = (65536 ≡ length l.a) × (65536 ≡ length l.b) × (room_out ≡ length l.out)
