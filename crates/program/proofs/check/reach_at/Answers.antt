-- `program::check::reach_at` meets its contract. Assumes nothing.
use Rattle.program.proofs.RecordLaws.{reach_call, reach_other}
use Rattle.program.proofs.check.reach_at.Goals as goal

pub returns-then-byte-eq13 : goal.returns-then-byte-eq13
returns-then-byte-eq13 c = reach_call c.args.program.now c.args.at _ c.byte.ensures c.if-byte-eq13.true c.half.ensures

pub returns : goal.returns
returns c = reach_other c.args.program.now c.args.at c.byte.ensures c.if-byte-eq13.false
