-- `meets::present::gather`: what its loop keeps.
use Rattle.parties.specs.Sets.{meet, all}
use Rattle.parties.proofs.LoopLaws.{LeftAt}
use Rattle.meets.proofs.MeetLaws.{Gathering}
use Rattle.meets.proofs.present.gather.Given as goal

abbrev pub invariant-loop-p : goal.invariant-loop-p
invariant-loop-p l = LeftAt (meet l.venue.mode (all l.n)) l.n (Gathering l.venue.node l.venue.e l.venue.mode l.n l.room l.lengths l.work l.brought) l.p-iterator.left
