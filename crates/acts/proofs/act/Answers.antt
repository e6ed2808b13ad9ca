-- `acts::act` meets its contract. Assumes nothing.
use native.Mathlib.Omega.{arith}
use Rattle.acts.proofs.ActLaws.{acts_stop, acts_refuse, acts_writes, acts_unread, acts_reads}
use Rattle.numbers.proofs.IntegerLaws.{read32}
use Rattle.acts.proofs.act.Goals as goal

pub returns-in-Err : goal.returns-in-Err
returns-in-Err c = let a = c.args in acts_stop a.input a.t a.p a.used a.bytes.now a.area.now c.stop.result _ _ a.told c.in-Err.number c.in-Err.is c.stop.ensures

pub returns-in_default : goal.returns-in_default
returns-in_default c = let a = c.args in rw c.in-Ok.is (acts_unread a.input a.t a.p a.used a.bytes.now a.area.now c.refuse-in_default.result _ _ c.in-Ok.effect c.in-Reads.is c.in_default.is c.refuse-in_default.ensures)

pub returns-in-Refuse : goal.returns-in-Refuse
returns-in-Refuse c = let a = c.args in rw c.in-Ok.is (acts_refuse a.input a.t a.p a.used a.bytes.now a.area.now c.refuse.result _ _ c.in-Ok.effect _ c.in-Refuse.is c.refuse.ensures)

pub returns-in-Some : goal.returns-in-Some
returns-in-Some c = let a = c.args in
    rw c.in-Ok.is (acts_reads a.input a.t a.p a.used a.bytes.now a.area.now c.settle.result _ _ c.in-Ok.effect c.in-Some.i c.in-Reads.is c.in-Some.is
    (rw (read32 c.in-Some.i (record { sfits = omega arith })) at c.settle.ensures))

pub returns-in-Writes : goal.returns-in-Writes
returns-in-Writes c = let a = c.args in
    rw c.in-Ok.is (acts_writes a.input a.t a.p a.used a.bytes.now a.area.now c.settle-in-Writes.result _ _ c.in-Ok.effect c.in-Writes.i c.in-Writes.is
    (rw (read32 c.in-Writes.i (record { sfits = omega arith })) at c.settle-in-Writes.ensures))
