-- `threadmolar::runs::tell_single` meets its contract. Assumes nothing.
use mathlib.Core.Path.{refl}
use native.Mathlib.Omega.{arith}
use Rattle.threadmolar.specs.Runs.{single_number, steps_left}
use Rattle.threadmolar.proofs.runs.tell_single.Goals as goal

pub overflow_cast-refused : goal.overflow_cast-refused
overflow_cast-refused c = let h = rw c.in-Err.is at c.requires in omega arith

pub returns-in-Err : goal.returns-in-Err
unfolding single_number steps_left
returns-in-Err c = rw c.in-Err.is (record { number_is = rw c.from.ensures at c.numbered.ensures; count_is = refl })

pub returns-in-Stopped : goal.returns-in-Stopped
unfolding single_number steps_left
returns-in-Stopped c = rw (c.in-Ok.is, c.in-Stopped.is) (record { number_is = rw c.from-in-Stopped.ensures at c.numbered-in-Stopped.ensures; count_is = refl })

pub returns-in-Ended : goal.returns-in-Ended
unfolding single_number steps_left
returns-in-Ended c = rw (c.in-Ok.is, c.in-Ended.is) (record { number_is = refl; count_is = refl })

pub returns-in-Budget : goal.returns-in-Budget
unfolding single_number steps_left
returns-in-Budget c = rw (c.in-Ok.is, c.in-Budget.is) (record { number_is = refl; count_is = refl })
