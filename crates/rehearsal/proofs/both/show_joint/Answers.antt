-- `rehearsal::both::show_joint` meets its contract. Assumes nothing.
use native.Mathlib.Omega.{arith}
use Rattle.rehearsal.proofs.BothLaws.{joint_can, joint_put}
use Rattle.rehearsal.proofs.both.show_joint.Goals as goal

pub put_joint-requires : goal.put_joint-requires
put_joint-requires c =
    let a = c.args in
    (joint_can a.program.now a.counts.now a.inputs.now c.run-answer.new.bytes c.run-answer.new.lengths c.run-answer.new.work c.fill.ensures c.parties_of.result c.parties_of.ensures c.requires.0 (omega (arith, c.run-answer.auto.bytes, c.fill.auto.records)) (omega (arith, c.run-answer.auto.lengths, c.fill.auto.lengths)) a.turns.now c.joint_line-line.result (rw (← c.joint_line-line.ensures) at c.run-answer.ensures), c.requires.1)

pub returns : goal.returns
returns c =
    let a = c.args in
    joint_put a.program.now a.counts.now a.inputs.now c.run-answer.new.bytes c.run-answer.new.lengths c.run-answer.new.work c.fill.ensures c.parties_of.result c.parties_of.ensures c.requires.0 (omega (arith, c.run-answer.auto.bytes, c.fill.auto.records)) (omega (arith, c.run-answer.auto.lengths, c.fill.auto.lengths)) a.turns.now c.joint_line-line.result (rw (← c.joint_line-line.ensures) at c.run-answer.ensures) c.put_joint.ensures
