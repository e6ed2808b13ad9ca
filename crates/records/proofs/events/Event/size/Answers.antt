-- `records::events::Event::size` meets its contract. Assumes nothing.
use Rattle.records.proofs.StoreLaws.{size_is}
use Rattle.records.proofs.events.Event.size.Goals as goal

pub returns-in-Read : goal.returns-in-Read
returns-in-Read c = size_is _ _ c.in-Read.is

pub returns-in-Wrote : goal.returns-in-Wrote
returns-in-Wrote c = size_is _ _ c.in-Wrote.is

pub returns-in-Shared : goal.returns-in-Shared
returns-in-Shared c = size_is _ _ c.in-Shared.is

pub returns-in-Opened : goal.returns-in-Opened
returns-in-Opened c = size_is _ _ c.in-Opened.is

pub returns-in-Passed : goal.returns-in-Passed
returns-in-Passed c = size_is _ _ c.in-Passed.is

pub returns-in-Finished : goal.returns-in-Finished
returns-in-Finished c = size_is _ _ c.in-Finished.is

pub returns-in-Stopped : goal.returns-in-Stopped
returns-in-Stopped c = size_is _ _ c.in-Stopped.is
