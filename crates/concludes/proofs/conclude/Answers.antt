-- `concludes::conclude` meets its contract. Assumes nothing.
use mathlib.Core.Path.{refl, ◌∙◌}
use native.Mathlib.Omega.{arith}
use Rattle.parties.specs.SetLaws.{below_within}
use Rattle.parties.proofs.LoopLaws.{left_start, left_here, left_next, left_over}
use Rattle.area.specs.Rows.{row_size}
use Rattle.invariants.proofs.RowLaws.{rows}
use Rattle.concludes.proofs.ConcludeLaws.{going_none, going_out, going_more, going_all}
use Rattle.concludes.proofs.conclude.Goals as goal

pub loop-p-init : goal.loop-p-init
loop-p-init c = (refl, refl, refl, left_start _ _ (rw (c.into_iter-p-iterator.ensures.into_iter_gives, c.members-p-items.ensures, c.meet.ensures, c.all.ensures)) (λ k h o g. going_out g o) going_none)

pub conclude_one-requires : goal.conclude_one-requires
conclude_one-requires c =
    let here = left_here _ _ (omega arith) c.loop-p.invariant.3 (below_within _ _) c.in-Some.ensures.steps in
    let a = c.args in
    let l = c.loop-p in
    let below = here.below in (
      omega (arith, rows c.in-Some.p a.n a.room below, l.invariant.0),
      omega (arith, below, l.invariant.1),
      omega (arith, rows c.in-Some.p a.n row_size below, l.invariant.2),
    )

pub loop-p-preserved : goal.loop-p-preserved
loop-p-preserved c =
    let here = left_here _ _ (omega arith) c.loop-p.invariant.3 (below_within _ _) c.in-Some.ensures.steps in
    let l = c.loop-p in
    let one = c.conclude_one in (
      one.auto.bytes ∙ l.invariant.0,
      one.auto.lengths ∙ l.invariant.1,
      one.auto.work ∙ l.invariant.2,
      left_next _ _ here (λ k h o g. going_out g o) (going_more here.so_far here.below here.inside one.ensures),
    )

pub returns : goal.returns
returns c = going_all _ refl (left_over _ _ (omega arith) c.loop-p.invariant.3 c.in-None.ensures.steps)
