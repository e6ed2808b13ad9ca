-- `threadmolar::check::threadmolar_check` meets its contract. Assumes nothing.
use mathlib.Core.Path.{refl, sym, ap, ◌∙◌}
use native.Mathlib.Omega.{arith}
use Rattle.program.specs.Answer.{told}
use Rattle.threadmolar.specs.Checks.{check_number, parties_left, nodes_left}
use Rattle.threadmolar.proofs.AnswerLaws.{check_fits}
use Rattle.threadmolar.proofs.check.threadmolar_check.Goals as goal

pub overflow_cast-bad : goal.overflow_cast-bad
overflow_cast-bad c = omega (arith, check_fits _ _ _ (ap told (sym c.in-Err.is) ∙ c.check.ensures))

pub returns-in-Err : goal.returns-in-Err
unfolding check_number parties_left nodes_left
returns-in-Err c = rw (← c.check.ensures, c.in-Err.is) (record { number = rw c.from.ensures at c.numbered.ensures; parties = refl; nodes = refl })

pub returns-in-Ok : goal.returns-in-Ok
unfolding check_number parties_left nodes_left
returns-in-Ok c = rw (← c.check.ensures, c.in-Ok.is) (record { number = refl; parties = refl; nodes = refl })
