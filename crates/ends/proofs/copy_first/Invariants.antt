-- `ends::copy_first`: what its loop keeps.
use Rattle.ends.specs.Ends.{AllFirst}
use Rattle.ends.proofs.copy_first.Given as goal

abbrev pub invariant-loop-p : goal.invariant-loop-p
invariant-loop-p l = AllFirst l.p l.initial.work l.work
