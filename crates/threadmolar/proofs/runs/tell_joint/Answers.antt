-- `threadmolar::runs::tell_joint` meets its contract. Assumes nothing.
use mathlib.Core.Path.{refl}
use native.Mathlib.Omega.{arith}
use Rattle.threadmolar.specs.Runs.{joint_number, taken_left}
use Rattle.threadmolar.proofs.runs.tell_joint.Goals as goal

pub overflow_cast-refused : goal.overflow_cast-refused
overflow_cast-refused c = let h = rw c.in-Err.is at c.requires in omega arith

pub returns-in-Err : goal.returns-in-Err
unfolding joint_number taken_left
returns-in-Err c = rw c.in-Err.is (record { number_is = rw c.from.ensures at c.numbered.ensures; count_is = refl })

pub returns-in-Complete : goal.returns-in-Complete
unfolding joint_number taken_left
returns-in-Complete c = rw (c.in-Ok.is, c.in-Complete.is) (record { number_is = refl; count_is = refl })

pub returns-in-Open : goal.returns-in-Open
unfolding joint_number taken_left
returns-in-Open c = rw (c.in-Ok.is, c.in-Open.is) (record { number_is = refl; count_is = refl })
