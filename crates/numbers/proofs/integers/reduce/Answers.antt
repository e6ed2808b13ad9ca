-- `numbers::integers::reduce` meets its contract. Assumes nothing.
use lib.Dec.{lit<}
use Rattle.numbers.proofs.IntegerLaws.{read}
use Rattle.numbers.proofs.ReduceLaws.{remainder, quotient_fits, remainder_fits, raised_fits, lowered_fits}
use Rattle.numbers.proofs.integers.reduce.Goals as goal

pub nonzero_rem-r : goal.nonzero_rem-r
nonzero_rem-r c = (lit< tt, rw (read c.args.z c.ranges.z) (quotient_fits c.args.z c.ranges.z))

pub overflow_add-result : goal.overflow_add-result
overflow_add-result c =
    let z = c.args.z in
    simp (read z c.ranges.z, read (remainder z) (remainder_fits z c.ranges.z)) (raised_fits z)

pub overflow_sub-result : goal.overflow_sub-result
overflow_sub-result c =
    let z = c.args.z in
    simp (read z c.ranges.z, read (remainder z) (remainder_fits z c.ranges.z)) (lowered_fits z)
