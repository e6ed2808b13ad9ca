-- `lookup::names_read` meets its contract. Assumes nothing.
use Rattle.rules.specs.Names.{names_of}
use Rattle.lookup.proofs.names_read.Goals as goal

pub returns-in-VAR : goal.returns-in-VAR
unfolding names_of
returns-in-VAR c = rw c.in-VAR.is c.reading_of.ensures

pub returns-in-INT : goal.returns-in-INT
unfolding names_of
returns-in-INT c = rw c.in-INT.is c.reading_of-in-INT.ensures

pub returns-in-OP : goal.returns-in-OP
unfolding names_of
returns-in-OP c = rw c.in-OP.is c.reading_of-in-OP.ensures

pub returns-in-MUX : goal.returns-in-MUX
unfolding names_of
returns-in-MUX c = rw c.in-MUX.is c.reading_of-in-MUX.ensures

pub returns-in-READ : goal.returns-in-READ
unfolding names_of
returns-in-READ c = rw c.in-READ.is c.reading_of-in-READ.ensures

pub returns-in-WRITE : goal.returns-in-WRITE
unfolding names_of
returns-in-WRITE c = rw c.in-WRITE.is c.reading_of-in-WRITE.ensures

pub returns-in-EMBED : goal.returns-in-EMBED
unfolding names_of
returns-in-EMBED c = rw c.in-EMBED.is c.reading_of-in-EMBED.ensures

pub returns-in-SHARE : goal.returns-in-SHARE
unfolding names_of
returns-in-SHARE c = rw c.in-SHARE.is c.reading_of-in-SHARE.ensures

pub returns-in-REVEAL : goal.returns-in-REVEAL
unfolding names_of
returns-in-REVEAL c = rw c.in-REVEAL.is c.reading_of-in-REVEAL.ensures

pub returns-in-LET : goal.returns-in-LET
unfolding names_of
returns-in-LET c = rw c.in-LET.is c.reading_of-in-LET.ensures

pub returns-in-CASE : goal.returns-in-CASE
unfolding names_of
returns-in-CASE c = rw c.in-CASE.is c.reading_of-in-CASE.ensures

pub returns-in-PAR : goal.returns-in-PAR
unfolding names_of
returns-in-PAR c = rw c.in-PAR.is c.reading_of-in-PAR.ensures

pub returns-in-CALL : goal.returns-in-CALL
unfolding names_of
returns-in-CALL c = rw c.in-CALL.is c.reading_of-in-CALL.ensures
