-- `threadmolar::walking::threadmolar_walk` meets its contract. Assumes nothing.
use mathlib.Core.Path.{refl}
use native.Mathlib.Omega.{arith}
use Rattle.numbers.proofs.IntegerLaws.{read32}
use Rattle.threadmolar.specs.Walks.{step_number, next_left, fields_left}
use Rattle.threadmolar.proofs.walking.threadmolar_walk.Goals as goal

pub returns-in-Event : goal.returns-in-Event
unfolding step_number next_left fields_left
returns-in-Event c = rw (← c.step.ensures, c.in-Event.is) (record { number = refl; next = refl; fields = rw (read32 c.fields_of-found.result.integer (record { sfits = omega arith })) c.fields_of-found.ensures })

pub returns-in-End : goal.returns-in-End
unfolding step_number next_left fields_left
returns-in-End c = rw (← c.step.ensures, c.in-End.is) (record { number = refl; next = refl; fields = refl })

pub returns-in-Bad : goal.returns-in-Bad
unfolding step_number next_left fields_left
returns-in-Bad c = rw (← c.step.ensures, c.in-Bad.is) (record { number = refl; next = refl; fields = refl })
