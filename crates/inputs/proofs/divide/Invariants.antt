-- `inputs::divide`: what its loop keeps.
use Rattle.inputs.proofs.InputLaws.{Dividing}
use Rattle.inputs.proofs.divide.Given as goal

abbrev pub invariant-loop-k : goal.invariant-loop-k
invariant-loop-k l = Dividing l.counts l.initial.at l.initial.end l.k l.s l.at l.end
