-- `judge::meetings::event_of` meets its contract. Assumes nothing.
use Rattle.numbers.proofs.IntegerLaws.{read32}
use Rattle.rules.specs.Books.{event_of}
use Rattle.judge.proofs.meetings.event_of.Goals as goal

pub returns-in-Sharing : goal.returns-in-Sharing
unfolding event_of
returns-in-Sharing c = rw c.in-Sharing.is

pub returns-in-Revealing : goal.returns-in-Revealing
unfolding event_of
returns-in-Revealing c = rw (read32 c.args.i c.ranges.i, c.in-Revealing.is)
