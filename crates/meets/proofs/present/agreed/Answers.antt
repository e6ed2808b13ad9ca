-- `meets::present::agreed` meets its contract. Assumes nothing.
use mir.Syntax.{w32}
use mir.Val.{to_z, of_z}
use Rattle.numbers.proofs.IntegerLaws.{read32}
use Rattle.meets.proofs.MeetLaws.{share_agrees, reveal_agrees}
use Rattle.meets.proofs.present.agreed.Goals as goal

pub returns-in-Sharing : goal.returns-in-Sharing
returns-in-Sharing c = let a = c.args in
    share_agrees a.venue.node a.venue.e a.venue.mode a.n a.room a.lengths.now a.work.now a.number a.holders a.mt _ _ c.in-Sharing.is

pub returns-in-Revealing : goal.returns-in-Revealing
returns-in-Revealing c = let a = c.args in
    rw (read32 a.number c.ranges.number) at
    (reveal_agrees a.venue.node a.venue.e a.venue.mode a.n a.room a.lengths.now a.work.now (to_z w32 (of_z w32 a.number)) a.holders a.mt _ c.all_agree.result c.in-Revealing.is c.all_agree.ensures)
