-- `inputs::next_input` meets its contract. Assumes nothing.
use native.Mathlib.Omega.{arith}
use Rattle.std.proofs.lemmas.Grind.{common_steps}
use Rattle.std.proofs.lemmas.Option.{gets}
use Rattle.inputs.proofs.InputLaws.{next_is}
use Rattle.inputs.proofs.next_input.Goals as goal

pub returns-then-i-end : goal.returns-then-i-end
returns-then-i-end c = grind (arith, common_steps, gets, next_is)
