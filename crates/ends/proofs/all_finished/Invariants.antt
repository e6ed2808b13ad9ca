-- `ends::all_finished`: what its loop keeps.
use Rattle.ends.proofs.EndsLaws.{Finishing}
use Rattle.ends.proofs.all_finished.Given as goal

abbrev pub invariant-loop-p : goal.invariant-loop-p
invariant-loop-p l = Finishing l.n l.work l.p
