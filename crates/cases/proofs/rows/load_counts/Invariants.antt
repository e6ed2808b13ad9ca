-- `cases::rows::load_counts`: what its loop keeps.
use mathlib.Core.Path.{◌≡◌}
use mathlib.Core.List.{◌++◌}
use lib.ListN.{drop}
use Rattle.cases.specs.Rows.{numbers_at}
use Rattle.cases.proofs.rows.load_counts.Given as goal

abbrev pub invariant-loop-i : goal.invariant-loop-i
invariant-loop-i l = l.counts ≡ numbers_at 2 l.i l.text l.at ++ drop l.i l.initial.counts
