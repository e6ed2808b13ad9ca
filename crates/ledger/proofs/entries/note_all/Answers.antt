-- `ledger::entries::note_all` meets its contract. Assumes nothing.
use mathlib.Core.Path.{refl}
use native.Mathlib.Omega.{arith}
use Rattle.parties.specs.Sets.{meet, all}
use Rattle.parties.proofs.LoopLaws.{left_start, left_here, left_next, left_over}
use Rattle.ledger.proofs.RevealLaws.{WorkedOut, all_below}
use Rattle.ledger.proofs.LedgerLaws.{go_none, go_fits}
use Rattle.ledger.proofs.EndLaws.{note_out, note_fits, note_more, note_end}
use Rattle.ledger.proofs.entries.note_all.Goals as goal

pub loop-p-init : goal.loop-p-init
loop-p-init c =
    let worked-out : (let a = c.args in WorkedOut a.n a.m a.e (meet a.m (all a.n)) c.writers-those.result c.passed-other.result) = record { members = refl; whole = c.writers-those.ensures; passing = c.passed-other.ensures } in
    left_start _ _ (rw (c.into_iter-p-iterator.ensures.into_iter_gives, c.members-p-items.ensures, c.meet.ensures, c.all.ensures)) (λ k h o g. note_out worked-out _ h g o) go_none

pub note_one-requires : goal.note_one-requires
note_one-requires c =
    let worked-out : (let a = c.args in WorkedOut a.n a.m a.e (meet a.m (all a.n)) c.writers-those.result c.passed-other.result) = record { members = refl; whole = c.writers-those.ensures; passing = c.passed-other.ensures } in
    let here = left_here _ _ (omega arith) c.loop-p.invariant (all_below worked-out) c.in-Some.ensures.steps in
    let (bytes, lengths) = go_fits here.so_far here.below c.requires.1 c.requires.2 in
    (bytes, lengths, note_fits worked-out _ here.below here.so_far c.requires.3 here.inside)

pub loop-p-preserved : goal.loop-p-preserved
loop-p-preserved c =
    let worked-out : (let a = c.args in WorkedOut a.n a.m a.e (meet a.m (all a.n)) c.writers-those.result c.passed-other.result) = record { members = refl; whole = c.writers-those.ensures; passing = c.passed-other.ensures } in
    let here = left_here _ _ (omega arith) c.loop-p.invariant (all_below worked-out) c.in-Some.ensures.steps in
    left_next _ _ here (λ k h o g. note_out worked-out _ h g o) (note_more worked-out _ here.below here.so_far c.requires.3 here.inside c.note_one.ensures)

pub returns : goal.returns
returns c =
    let worked-out : (let a = c.args in WorkedOut a.n a.m a.e (meet a.m (all a.n)) c.writers-those.result c.passed-other.result) = record { members = refl; whole = c.writers-those.ensures; passing = c.passed-other.ensures } in
    note_end worked-out _ (left_over _ _ (omega arith) c.loop-p.invariant c.in-None.ensures.steps)
