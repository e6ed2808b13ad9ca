-- `meets::present::brings` meets its contract. Assumes nothing.
use Rattle.meets.proofs.MeetLaws.{brings_told}
use Rattle.meets.proofs.present.brings.Goals as goal

pub returns-in_err-offer : goal.returns-in_err-offer
returns-in_err-offer c = let a = c.args in
    rw c.from_residual.ensures (brings_told a.venue.node a.venue.e a.venue.mode a.p a.room a.lengths.now a.work.now c.attendance_at.result c.attendance_at.ensures a.before _ (rw c.in_err-offer.was))

pub returns-in_default : goal.returns-in_default
returns-in_default c = let a = c.args in
    brings_told a.venue.node a.venue.e a.venue.mode a.p a.room a.lengths.now a.work.now c.attendance_at.result c.attendance_at.ensures a.before _ (rw (c.in_ok-offer.was, c.in_default.is))

pub returns : goal.returns
returns c = let a = c.args in
    brings_told a.venue.node a.venue.e a.venue.mode a.p a.room a.lengths.now a.work.now c.attendance_at.result c.attendance_at.ensures a.before _ (rw (c.in_ok-offer.was, c.in-Secret.is))
