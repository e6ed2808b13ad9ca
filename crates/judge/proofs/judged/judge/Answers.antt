-- `judge::judged::judge` meets its contract. Assumes nothing.
use native.Mathlib.Omega.{arith}
use Rattle.numbers.proofs.IntegerLaws.{read32}
use Rattle.rules.specs.Rules.{judge}
use Rattle.judge.proofs.judged.judge.Goals as goal

pub returns-in-VAR : goal.returns-in-VAR
unfolding judge
returns-in-VAR c = rw c.in-VAR.is

pub returns-in-INT : goal.returns-in-INT
unfolding judge
returns-in-INT c = rw (read32 c.in-INT.i (record { sfits = omega arith }), c.in-INT.is)

pub returns-in-OP : goal.returns-in-OP
unfolding judge
returns-in-OP c = rw c.in-OP.is c.op.ensures

pub returns-in-MUX : goal.returns-in-MUX
unfolding judge
returns-in-MUX c = rw c.in-MUX.is c.mux.ensures

pub returns-in-READ : goal.returns-in-READ
unfolding judge
returns-in-READ c = rw c.in-READ.is c.read.ensures

pub returns-in-WRITE : goal.returns-in-WRITE
unfolding judge
returns-in-WRITE c = rw c.in-WRITE.is c.write.ensures

pub returns-in-EMBED : goal.returns-in-EMBED
unfolding judge
returns-in-EMBED c = rw c.in-EMBED.is c.embed.ensures

pub returns-in-SHARE : goal.returns-in-SHARE
unfolding judge
returns-in-SHARE c = rw c.in-SHARE.is c.share.ensures

pub returns-in-REVEAL : goal.returns-in-REVEAL
unfolding judge
returns-in-REVEAL c = rw c.in-REVEAL.is c.reveal.ensures

pub returns-in-LET : goal.returns-in-LET
unfolding judge
returns-in-LET c = rw c.in-LET.is

pub returns-in-CASE : goal.returns-in-CASE
unfolding judge
returns-in-CASE c = rw c.in-CASE.is c.case.ensures

pub returns-in-PAR : goal.returns-in-PAR
unfolding judge
returns-in-PAR c = rw c.in-PAR.is c.par.ensures

pub returns-in-CALL : goal.returns-in-CALL
unfolding judge
returns-in-CALL c = rw c.in-CALL.is
