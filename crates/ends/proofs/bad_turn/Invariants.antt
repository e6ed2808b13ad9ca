-- `ends::bad_turn`: what its loop keeps.
use mathlib.Core.Path.{◌≡◌}
use lib.ListN.{drop}
use Rattle.rules.specs.Calls.{bad_turn_from}
use Rattle.ends.proofs.bad_turn.Given as goal

abbrev pub invariant-loop-j : goal.invariant-loop-j
invariant-loop-j l = bad_turn_from l.n l.j (drop l.j l.turns) ≡ bad_turn_from l.n 0 l.turns
