-- `cases::rows::load_inputs`: what its loop keeps.
use mathlib.Core.Path.{◌≡◌}
use mathlib.Core.List.{◌++◌}
use lib.ListN.{drop}
use Rattle.cases.specs.Rows.{integers_at}
use Rattle.cases.proofs.rows.load_inputs.Given as goal

abbrev pub invariant-loop-i : goal.invariant-loop-i
invariant-loop-i l = l.inputs ≡ integers_at l.i l.text l.at ++ drop l.i l.initial.inputs
