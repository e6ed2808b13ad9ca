-- `meets::present::attendance_at` meets its contract. Assumes nothing.
use Rattle.meets.proofs.MeetLaws.{attends_told}
use Rattle.meets.proofs.present.attendance_at.Goals as goal

pub returns : goal.returns
returns c = let a = c.args in
    attends_told a.venue.node a.venue.e a.venue.mode a.p a.room a.lengths.now a.work.now c.attendance_of.result c.attendance_of.ensures
