-- `joint::runs::run_lent` meets its contract. Assumes nothing.
use mathlib.Core.Path.{ap, ◌∙◌}
use Prim.Native.Nat.{ℕ}
use native.Mathlib.Omega.{arith}
use lib.ListN.{replicate}
use Rattle.rules.specs.Lent.{Lent, room_of}
use Rattle.rules.specs.Calls.{joint_of, joint_call}
use Rattle.invariants.proofs.LeftLaws.{rooms_within}
use Rattle.ledger.proofs.LentLaws.{bounds, short_places, short_work, enough, fit_whole}
use Rattle.ledger.proofs.CallLaws.{lent, call_short}
use Rattle.joint.proofs.CallLaws.{call_runs}
use Rattle.joint.proofs.runs.run_lent.Goals as goal

pub nonzero_div-room : goal.nonzero_div-room
nonzero_div-room c = omega (arith, (bounds _ _ _ c.requires.0).some_party)

pub returns-then-lengths-parties : goal.returns-then-lengths-parties
unfolding joint_call joint_of
returns-then-lengths-parties c = let a = c.args in
    let p = c.requires in
    let L : Lent = lent a.program.now a.counts.now a.inputs.now a.bytes.now a.lengths.now a.work.now in
    rw c.at-then-lengths-parties.ensures (call_short (joint_of L a.turns.now) L a.n a.nodes p.0 (fit_whole a.n L p.1 p.2) p.3 (short_places a.n a.n L (omega arith) c.if-lengths-parties.true))

pub returns-then-work-parties : goal.returns-then-work-parties
unfolding joint_call joint_of
returns-then-work-parties c = let a = c.args in
    let p = c.requires in
    let L : Lent = lent a.program.now a.counts.now a.inputs.now a.bytes.now a.lengths.now a.work.now in
    rw c.at-then-work-parties.ensures (call_short (joint_of L a.turns.now) L a.n a.nodes p.0 (fit_whole a.n L p.1 p.2) p.3 (short_work a.n a.n L (omega arith) c.if-lengths-parties.false c.if-work-parties.true))

pub drive-answer-requires : goal.drive-answer-requires
drive-answer-requires c = let p = c.requires in
    let g = bounds _ _ _ p.0 in
    (g.few_parties, g.some_node, g.few_nodes, rooms_within _ _, c.if-lengths-parties.false, omega (arith, c.if-work-parties.false), p.1, p.2, p.3)

pub returns : goal.returns
unfolding room_of
returns c = let a = c.args in
    let p = c.requires in
    let L : Lent = lent a.program.now a.counts.now a.inputs.now a.bytes.now a.lengths.now a.work.now in
    call_runs L a.n _ _ _ (c.zero.ensures ∙ ap (λ (i : ℕ). replicate i 0) c.drive-answer.auto.work) a.turns.now a.nodes _ p.0 (fit_whole a.n L p.1 p.2) p.3
    (enough a.n a.n L (omega arith) c.if-lengths-parties.false c.if-work-parties.false) (omega arith) c.drive-answer.ensures
