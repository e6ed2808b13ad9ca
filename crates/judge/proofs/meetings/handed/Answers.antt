-- `judge::meetings::handed` meets its contract. Assumes nothing.
use Rattle.numbers.proofs.IntegerLaws.{read32}
use Rattle.rules.specs.Books.{handed}
use Rattle.judge.proofs.meetings.handed.Goals as goal

pub returns-in-Sharing : goal.returns-in-Sharing
unfolding handed
returns-in-Sharing c = rw (read32 c.args.i c.ranges.i, c.in-Sharing.is)

pub returns-in-Revealing : goal.returns-in-Revealing
unfolding handed
returns-in-Revealing c = rw (read32 c.args.i c.ranges.i, c.in-Revealing.is)
