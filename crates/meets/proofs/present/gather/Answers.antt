-- `meets::present::gather` meets its contract. Assumes nothing.
use mathlib.Core.Path.{refl, ◌∙◌}
use native.Mathlib.Omega.{arith}
use Rattle.parties.specs.SetLaws.{below_within}
use Rattle.parties.proofs.LoopLaws.{left_start, left_here, left_next, left_over}
use Rattle.rules.specs.declared.effects.Offer.TheVariants.{Empty}
use Rattle.meets.proofs.MeetLaws.{below_in, gather_passes, gather_none, gather_all, gather_more, gather_missing}
use Rattle.meets.proofs.present.gather.Goals as goal

pub loop-p-init : goal.loop-p-init
loop-p-init c =
    let a = c.args in
    left_start _ _ (rw (c.into_iter-p-iterator.ensures.into_iter_gives, c.members-p-items.ensures, c.meet.ensures, c.all.ensures))
    (gather_passes a.venue.node a.venue.e a.venue.mode a.n a.room a.lengths.now a.work.now _ refl Empty) (gather_none a.venue.node a.venue.e a.venue.mode a.n a.room a.lengths.now a.work.now)

pub brings-requires : goal.brings-requires
brings-requires c =
    let here = left_here _ _ (omega arith) c.loop-p.invariant (below_within _ _) c.in-Some.ensures.steps in
    (omega (arith, here.below), omega (arith, here.below))

pub returns-in_err-brought : goal.returns-in_err-brought
returns-in_err-brought c =
    let a = c.args in
    let here = left_here _ _ (omega arith) c.loop-p.invariant (below_within _ _) c.in-Some.ensures.steps in
    let inside = below_in _ a.venue.mode a.n refl c.in-Some.p here.below ∙ here.inside in
    rw c.from_residual.ensures
    (gather_missing a.venue.node a.venue.e a.venue.mode a.n a.room a.lengths.now a.work.now c.in-Some.p c.loop-p.brought here.below inside c.brings.result c.brings.ensures c.in_err-brought.was)

pub loop-p-preserved : goal.loop-p-preserved
loop-p-preserved c =
    let a = c.args in
    let here = left_here _ _ (omega arith) c.loop-p.invariant (below_within _ _) c.in-Some.ensures.steps in
    let inside = below_in _ a.venue.mode a.n refl c.in-Some.p here.below ∙ here.inside in
    left_next _ _ here (gather_passes a.venue.node a.venue.e a.venue.mode a.n a.room a.lengths.now a.work.now _ refl _)
    (gather_more a.venue.node a.venue.e a.venue.mode a.n a.room a.lengths.now a.work.now c.in-Some.p c.loop-p.brought here.below inside c.brings.result c.brings.ensures _ c.in_ok-brought.was here.so_far)

pub returns : goal.returns
returns c = let a = c.args in gather_all a.venue.node a.venue.e a.venue.mode a.n a.room a.lengths.now a.work.now c.loop-p.brought (left_over _ _ (omega arith) c.loop-p.invariant c.in-None.ensures.steps)
