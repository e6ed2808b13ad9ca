-- `ledger::entries::room_for_all` meets its contract. Assumes nothing.
use mathlib.Core.Bool.{not}
use mathlib.Core.Path.{refl, sym, ap, ◌∙◌}
use native.Mathlib.Omega.{arith}
use borrow.Author.Tests.{not-true, not-false}
use Rattle.parties.specs.Sets.{meet, all}
use Rattle.parties.proofs.LoopLaws.{left_start, left_here, left_next, left_over}
use Rattle.records.specs.EventLaws.{event_short}
use Rattle.invariants.proofs.AllOfLaws.{all_none, all_more}
use Rattle.ledger.proofs.RevealLaws.{WorkedOut, all_below}
use Rattle.ledger.proofs.RoomLaws.{rooms_all, rooms_lack}
use Rattle.ledger.proofs.entries.room_for_all.Goals as goal

pub loop-p-init : goal.loop-p-init
loop-p-init c = left_start _ _ (rw (c.into_iter-p-iterator.ensures.into_iter_gives, c.members-p-items.ensures, c.meet.ensures, c.all.ensures)) (λ k h o a. all_more _ _ k a (rw o)) (all_none _ _)

pub bounds-lengths-p : goal.bounds-lengths-p
bounds-lengths-p c =
    let worked-out : (let a = c.args in WorkedOut a.n a.m a.e (meet a.m (all a.n)) c.writers-those.result c.passed.result) = record { members = refl; whole = c.writers-those.ensures; passing = c.passed.ensures } in
    let here = left_here _ _ (omega arith) c.loop-p.invariant (all_below worked-out) c.in-Some.ensures.steps in
    omega (arith, here.below)

pub may_note-requires : goal.may_note-requires
may_note-requires c = (omega (arith, c.size-own.ensures, event_short c.args.e), omega (arith, c.size-other.ensures, event_short c.passed.result))

pub returns-then-not-may_note : goal.returns-then-not-may_note
returns-then-not-may_note c =
    let worked-out : (let a = c.args in WorkedOut a.n a.m a.e (meet a.m (all a.n)) c.writers-those.result c.passed.result) = record { members = refl; whole = c.writers-those.ensures; passing = c.passed.ensures } in
    let here = left_here _ _ (omega arith) c.loop-p.invariant (all_below worked-out) c.in-Some.ensures.steps in
    rooms_lack worked-out _ _ _ _ c.size-own.ensures c.size-other.ensures _ here.below here.inside (sym c.may_note.ensures ∙ not-true _ (ap not c.if-not-may_note.true))

pub loop-p-preserved : goal.loop-p-preserved
loop-p-preserved c =
    let worked-out : (let a = c.args in WorkedOut a.n a.m a.e (meet a.m (all a.n)) c.writers-those.result c.passed.result) = record { members = refl; whole = c.writers-those.ensures; passing = c.passed.ensures } in
    let here = left_here _ _ (omega arith) c.loop-p.invariant (all_below worked-out) c.in-Some.ensures.steps in
    left_next _ _ here (λ k h o a. all_more _ _ k a (rw o)) (all_more _ _ _ here.so_far (rw here.inside (sym c.may_note.ensures ∙ not-false _ (ap not c.if-not-may_note.false))))

pub returns : goal.returns
returns c =
    let worked-out : (let a = c.args in WorkedOut a.n a.m a.e (meet a.m (all a.n)) c.writers-those.result c.passed.result) = record { members = refl; whole = c.writers-those.ensures; passing = c.passed.ensures } in
    rooms_all worked-out _ _ _ _ c.size-own.ensures c.size-other.ensures (left_over _ _ (omega arith) c.loop-p.invariant c.in-None.ensures.steps)
