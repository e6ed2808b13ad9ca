-- `concludes::conclude`: what its loop keeps.
use mathlib.Core.Path.{◌≡◌}
use lib.ListN.{length}
use Rattle.parties.specs.Sets.{meet, all}
use Rattle.parties.proofs.LoopLaws.{LeftAt}
use Rattle.concludes.proofs.ConcludeLaws.{Going}
use Rattle.concludes.proofs.conclude.Given as goal

abbrev pub invariant-loop-p : goal.invariant-loop-p
invariant-loop-p l =
    let s = meet l.fn.m (all l.n) in
    (length l.bytes ≡ length l.initial.bytes) × (length l.lengths ≡ length l.initial.lengths) × (length l.work ≡ length l.initial.work) × LeftAt s l.n (Going l.outcome s l.n l.room l.initial.bytes l.initial.lengths l.initial.work l.bytes l.lengths l.work) l.p-iterator.left
