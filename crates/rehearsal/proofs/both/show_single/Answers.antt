-- `rehearsal::both::show_single` meets its contract. Assumes nothing.
use native.Mathlib.Omega.{arith}
use Rattle.rehearsal.proofs.BothLaws.{single_can, single_put}
use Rattle.rehearsal.proofs.both.show_single.Goals as goal

pub put_single-requires : goal.put_single-requires
put_single-requires c =
    let a = c.args in
    (single_can a.program.now a.counts.now a.inputs.now c.run-answer.new.bytes c.run-answer.new.lengths c.run-answer.new.work c.fill.ensures c.parties_of.result c.parties_of.ensures c.requires.0 (omega (arith, c.run-answer.auto.bytes, c.fill.auto.records)) (omega (arith, c.run-answer.auto.lengths, c.fill.auto.lengths)) a.budget c.single_line-line.result (rw (← c.single_line-line.ensures) at c.run-answer.ensures), c.requires.1)

pub returns : goal.returns
returns c =
    let a = c.args in
    single_put a.program.now a.counts.now a.inputs.now c.run-answer.new.bytes c.run-answer.new.lengths c.run-answer.new.work c.fill.ensures c.parties_of.result c.parties_of.ensures c.requires.0 (omega (arith, c.run-answer.auto.bytes, c.fill.auto.records)) (omega (arith, c.run-answer.auto.lengths, c.fill.auto.lengths)) a.budget c.single_line-line.result (rw (← c.single_line-line.ensures) at c.run-answer.ensures) c.put_single.ensures
