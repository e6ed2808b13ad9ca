-- `meets::present::member_agrees` meets its contract. Assumes nothing.
use mir.Syntax.{w32}
use mir.Val.{to_z, of_z}
use Rattle.numbers.proofs.IntegerLaws.{read32}
use Rattle.meets.proofs.MeetLaws.{agrees_told}
use Rattle.meets.proofs.present.member_agrees.Goals as goal

pub returns : goal.returns
returns c = let a = c.args in
    rw (read32 a.number c.ranges.number) at
    (agrees_told a.venue.node a.venue.e a.venue.mode a.p a.room a.lengths.now a.work.now c.attendance_at-a.result c.attendance_at-a.ensures (to_z w32 (of_z w32 a.number)) a.holders c.agrees.result c.agrees.ensures)
