-- `site::own::meeting_of` meets its contract. Assumes nothing.
use borrow.Enum.Refused.{opened}
use Rattle.site.proofs.OwnLaws.{no_meeting, not_met}
use Rattle.site.proofs.own.meeting_of.Goals as goal

pub returns-in_default : goal.returns-in_default
returns-in_default c = not_met c.args.effect (no_meeting c.args.effect (opened c.in_default.in_default-own.keys2))

pub returns : goal.returns
returns c = rw c.in-Meets.is
