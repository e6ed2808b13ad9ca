-- `ends::is_finished` meets its contract. Assumes nothing.
use Rattle.ends.proofs.is_finished.Goals as goal

pub returns-in-Running : goal.returns-in-Running
returns-in-Running c = rw (← c.load_seat.ensures, c.in-Running.is)

pub returns-in-Finished : goal.returns-in-Finished
returns-in-Finished c = rw (← c.load_seat.ensures, c.in-Finished.is)

pub returns-in-Stopped : goal.returns-in-Stopped
returns-in-Stopped c = rw (← c.load_seat.ensures, c.in-Stopped.is)
