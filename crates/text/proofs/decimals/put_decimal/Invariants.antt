-- `text::decimals::put_decimal`: what its loop keeps.
use Rattle.text.proofs.DecimalLaws.{Found}
use Rattle.text.proofs.decimals.put_decimal.Given as goal

abbrev pub invariant-loop-left : goal.invariant-loop-left
invariant-loop-left l = Found l.n l.digits l.first l.left

abbrev pub decreases-loop-left : goal.decreases-loop-left
decreases-loop-left l = l.first
