-- `places::index`: what its loop keeps.
use Rattle.places.proofs.PlaceLaws.{Listing}
use Rattle.places.proofs.index.Given as goal

abbrev pub invariant-loop-k : goal.invariant-loop-k
invariant-loop-k l = Listing l.program l.nodes l.initial.table l.table l.at l.k
