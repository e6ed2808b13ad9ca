-- `stretches::copy_within` meets its contract. Assumes nothing.
use mathlib.Core.Path.{refl}
use lib.ListN.{length-set}
use Rattle.stretches.proofs.StretchLaws.{copied_none, copied_more}
use Rattle.stretches.proofs.copy_within.Goals as goal

pub loop-i-init : goal.loop-i-init
loop-i-init c = (refl, copied_none _ _ _)

pub loop-i-preserved : goal.loop-i-preserved
loop-i-preserved c =
    let a = c.requires in
    let v = c.loop-i.invariant in
    (simp length-set v.0, copied_more _ _ _ _ _ a.0 a.1 c.loop-i-test.true _ a.2 v.1)
