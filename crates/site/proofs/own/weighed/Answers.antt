-- `site::own::weighed` meets its contract. Assumes nothing.
use borrow.Enum.Refused.{opened}
use Rattle.site.proofs.OwnLaws.{no_meeting, weighs_acts, weighs_attends, weighs_lacks}
use Rattle.site.proofs.own.weighed.Goals as goal

pub returns-in_default : goal.returns-in_default
returns-in_default c = let a = c.args in weighs_acts a.p.index a.effect a.room a.used (no_meeting a.effect (opened c.in_default.in_default-own.keys2))

pub returns-then-room_for : goal.returns-then-room_for
returns-then-room_for c = let a = c.args in weighs_attends a.p.index a.effect a.room a.used _ _ c.in-Meets.is c.room_for.result c.room_for.ensures c.if-room_for.true

pub returns : goal.returns
returns c = let a = c.args in weighs_lacks a.p.index a.effect a.room a.used _ _ c.in-Meets.is c.room_for.result c.room_for.ensures c.if-room_for.false
