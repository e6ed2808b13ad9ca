-- `site::own::invited` meets its contract. Assumes nothing.
use Rattle.site.proofs.OwnLaws.{invites_not, invites_to, invites_lacks}
use Rattle.site.proofs.own.invited.Goals as goal

pub returns-in_err-invitation : goal.returns-in_err-invitation
returns-in_err-invitation c = let a = c.args in rw c.from_residual.ensures (invites_not a.p a.t a.room a.used a.area.now a.node c.meeting.result c.meeting.ensures c.in_err-invitation.was)

pub returns-then-room_for : goal.returns-then-room_for
returns-then-room_for c = let a = c.args in
    invites_to a.p a.t a.room a.used a.area.now a.node c.meeting.result c.meeting.ensures _ c.in_ok-invitation.was c.room_for.result c.room_for.ensures c.if-room_for.true

pub returns : goal.returns
returns c = let a = c.args in
    invites_lacks a.p a.t a.room a.used a.area.now a.node c.meeting.result c.meeting.ensures _ c.in_ok-invitation.was c.room_for.result c.room_for.ensures c.if-room_for.false
