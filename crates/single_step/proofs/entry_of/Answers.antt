-- `single_step::entry_of` meets its contract. Assumes nothing.
use native.Mathlib.Omega.{arith}
use Rattle.numbers.proofs.IntegerLaws.{read32}
use Rattle.single_step.proofs.PerformLaws.{refuses, writes, meets}
use Rattle.single_step.proofs.entry_of.Goals as goal

pub returns-in-Refuse : goal.returns-in-Refuse
returns-in-Refuse c =
    let a = c.args in
    rw c.in-Refuse.is (refuses a.inputs.now a.end.now a.at.now a.m _)

pub returns-in-Writes : goal.returns-in-Writes
returns-in-Writes c =
    let a = c.args in
    rw (c.in-Writes.is, read32 c.in-Writes.i (record { sfits = omega arith })) (writes a.inputs.now a.end.now a.at.now a.m c.in-Writes.i)

pub returns-in-Secret : goal.returns-in-Secret
returns-in-Secret c =
    let a = c.args in
    rw (c.in-Meets.is, c.in-Secret.is, c.event_of.ensures, c.handed.ensures, read32 c.in-Secret.i (record { sfits = omega arith })) (meets a.inputs.now a.end.now a.at.now a.m _ c.in-Secret.i _)
