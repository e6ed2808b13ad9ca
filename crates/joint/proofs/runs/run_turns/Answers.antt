-- `joint::runs::run_turns` meets its contract. Assumes nothing.
use native.Mathlib.Omega.{arith}
use Rattle.sites.proofs.TurnLaws.{came_fits}
use Rattle.joint.proofs.TurnLaws.{going_stride, going_all}
use Rattle.joint.proofs.runs.run_turns.Goals as goal

pub turn-counts-requires : goal.turn-counts-requires
turn-counts-requires c = let p = c.requires in
    let v = c.loop-j.auto in
    let r = c.strides-strode in
    (p.1 _ (omega (arith, r.ensures.0, c.loop-j-test.true)), p.2, omega (arith, p.3, v.bytes), omega (arith, p.4, v.lengths), omega (arith, p.5, v.work, r.auto.work), omega (arith, p.6, v.at), p.7, came_fits _ _ _ _ r.ensures.1 r.ensures.2 _ r.ensures.4)

pub loop-j-preserved : goal.loop-j-preserved
loop-j-preserved c = let a = c.args in
    let p = c.requires in
    let l = c.loop-j in
    let r = c.strides-strode in
    let u = c.turn-counts in
    going_stride a.program.now a.nodes a.turns.now a.n a.room a.inputs.now a.end.now a.at.now a.bytes.now a.lengths.now a.work.now l.j l.count l.at l.bytes l.lengths l.work l.invariant
    p.1 (omega (arith, p.5, l.auto.work)) (omega (arith, p.2, p.6, l.auto.at)) _ _ r.result _ r.ensures (omega (arith, c.loop-j-test.true)) u.result c.once.result _ _ _ _ c.once.ensures.0 u.ensures

pub returns : goal.returns
returns c = let a = c.args in
    let l = c.loop-j in
    going_all a.program.now a.nodes a.turns.now a.n a.room a.inputs.now a.end.now a.at.now a.bytes.now a.lengths.now a.work.now l.j l.count l.at l.bytes l.lengths l.work l.invariant c.loop-j-test.false
