-- The measure is the number of bytes that are left. Assumes nothing.
use Rattle.vectors.proofs.skip.Given as goal

abbrev pub decreases-loop-left : goal.decreases-loop-left
decreases-loop-left g l = l.left
