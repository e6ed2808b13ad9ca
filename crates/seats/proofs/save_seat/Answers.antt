-- `seats::save_seat` meets its contract. Assumes nothing.
use native.Mathlib.Omega.{arith}
use lib.ListN.{length-set}
use Rattle.seats.proofs.SeatLaws.{saved_finished, saved_stopped, saved_running}
use Rattle.seats.proofs.save_seat.Goals as goal

pub store2-requires : goal.store2-requires
store2-requires c = simp length-set (omega arith)

pub store_set-requires : goal.store_set-requires
store_set-requires c = simp (c.store2.auto.s, length-set) (omega arith)

pub bounds-w-12453 : goal.bounds-w-12453
bounds-w-12453 c = simp (c.store_set.auto.s, c.store2.auto.s, length-set) (omega arith)

pub returns-in-Finished : goal.returns-in-Finished
returns-in-Finished c = rw c.in-Finished.is (saved_finished c.args.w.now c.requires)

pub returns-in-Stopped : goal.returns-in-Stopped
returns-in-Stopped c = rw c.in-Stopped.is (saved_stopped c.args.w.now c.requires)

pub returns-in-Running : goal.returns-in-Running
returns-in-Running c = let a = c.args in rw c.in-Running.is (saved_running _ a.w.now _ _ c.requires (omega arith) (omega arith) c.store2.ensures c.store_set.ensures)
