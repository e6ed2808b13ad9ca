-- `program::check::parties_of` meets its contract. Assumes nothing.
use Rattle.program.proofs.RecordLaws.{no_parties, too_few, too_many, parties_are}
use Rattle.program.proofs.check.parties_of.Goals as goal

pub returns-then-byte-ne0 : goal.returns-then-byte-ne0
returns-then-byte-ne0 c = no_parties c.args.program.now c.byte.ensures c.if-byte-ne0.true

pub returns-then-n-eq0 : goal.returns-then-n-eq0
returns-then-n-eq0 c = too_few c.args.program.now c.byte.ensures c.if-byte-ne0.false c.byte-n.ensures c.if-n-eq0.true

pub returns-then-n-gt-MAX : goal.returns-then-n-gt-MAX
returns-then-n-gt-MAX c = too_many c.args.program.now c.byte.ensures c.if-byte-ne0.false c.byte-n.ensures c.if-n-gt-MAX.true

pub returns : goal.returns
returns c = parties_are c.args.program.now c.byte.ensures c.if-byte-ne0.false c.byte-n.ensures c.if-n-eq0.false c.if-n-gt-MAX.false
