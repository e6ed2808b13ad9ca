-- `attends::attendance_of` meets its contract. Assumes nothing.
use Rattle.attends.proofs.AttendLaws.{at_running, at_finished, at_stopped}
use Rattle.attends.proofs.attendance_of.Goals as goal

pub returns-in-Running : goal.returns-in-Running
returns-in-Running c = let a = c.args in at_running a.venue.node a.venue.e a.venue.mode a.p a.room a.used a.area.now c.load_seat.result c.load_seat.ensures _ _ c.in-Running.is c.attends_from.ensures

pub returns-in-Finished : goal.returns-in-Finished
returns-in-Finished c = let a = c.args in at_finished a.venue.node a.venue.e a.venue.mode a.p a.room a.used a.area.now c.load_seat.result c.load_seat.ensures c.in-Finished.is

pub returns-in-Stopped : goal.returns-in-Stopped
returns-in-Stopped c = let a = c.args in at_stopped a.venue.node a.venue.e a.venue.mode a.p a.room a.used a.area.now c.load_seat.result c.load_seat.ensures c.in-Stopped.is
