-- `meets::present::all_agree` meets its contract. Assumes nothing.
use mathlib.Core.Bool.{not}
use mathlib.Core.Path.{refl, ap, ◌∙◌}
use native.Mathlib.Omega.{arith}
use Rattle.parties.specs.SetLaws.{below_within}
use Rattle.parties.proofs.LoopLaws.{left_start, left_here, left_next, left_over}
use mir.Syntax.{w32}
use mir.Val.{to_z, of_z}
use Rattle.numbers.proofs.IntegerLaws.{read32}
use Rattle.meets.proofs.MeetLaws.{below_in, agree_passes, agree_none, agree_all, agree_more, agree_not}
use Rattle.meets.proofs.present.all_agree.Goals as goal

pub loop-p-init : goal.loop-p-init
loop-p-init c =
    let a = c.args in
    left_start _ _ (rw (c.into_iter-p-iterator.ensures.into_iter_gives, c.members-p-items.ensures, c.meet.ensures, c.all.ensures))
    (agree_passes a.venue.node a.venue.e a.venue.mode a.n a.room a.lengths.now a.work.now (to_z w32 (of_z w32 a.number)) a.holders _ refl) (agree_none a.venue.node a.venue.e a.venue.mode a.n a.room a.lengths.now a.work.now (to_z w32 (of_z w32 a.number)) a.holders)

pub member_agrees-requires : goal.member_agrees-requires
member_agrees-requires c =
    let here = left_here _ _ (omega arith) c.loop-p.invariant (below_within _ _) c.in-Some.ensures.steps in
    (omega (arith, here.below), omega (arith, here.below))

pub returns-then-not-member_agrees : goal.returns-then-not-member_agrees
returns-then-not-member_agrees c =
    let a = c.args in
    let here = left_here _ _ (omega arith) c.loop-p.invariant (below_within _ _) c.in-Some.ensures.steps in
    let inside = below_in _ a.venue.mode a.n refl c.in-Some.p here.below ∙ here.inside in
    rw (read32 a.number c.ranges.number) at
    (agree_not a.venue.node a.venue.e a.venue.mode a.n a.room a.lengths.now a.work.now (to_z w32 (of_z w32 a.number)) a.holders c.in-Some.p here.below inside c.member_agrees.result c.member_agrees.ensures (ap not c.if-not-member_agrees.true))

pub loop-p-preserved : goal.loop-p-preserved
loop-p-preserved c =
    let a = c.args in
    let here = left_here _ _ (omega arith) c.loop-p.invariant (below_within _ _) c.in-Some.ensures.steps in
    let inside = below_in _ a.venue.mode a.n refl c.in-Some.p here.below ∙ here.inside in
    left_next _ _ here (agree_passes a.venue.node a.venue.e a.venue.mode a.n a.room a.lengths.now a.work.now (to_z w32 (of_z w32 a.number)) a.holders _ refl)
    (agree_more a.venue.node a.venue.e a.venue.mode a.n a.room a.lengths.now a.work.now (to_z w32 (of_z w32 a.number)) a.holders c.in-Some.p here.below inside c.member_agrees.result c.member_agrees.ensures (ap not c.if-not-member_agrees.false) here.so_far)

pub returns : goal.returns
returns c =
    let a = c.args in
    rw (read32 a.number c.ranges.number) at
    (agree_all a.venue.node a.venue.e a.venue.mode a.n a.room a.lengths.now a.work.now (to_z w32 (of_z w32 a.number)) a.holders (left_over _ _ (omega arith) c.loop-p.invariant c.in-None.ensures.steps))
