-- `attends::attends_from` meets its contract. Assumes nothing.
use mathlib.Core.Path.{sym, ◌∙◌}
use borrow.Author.Tests.{not-true, not-false}
use Rattle.parties.specs.Sets.{same_set}
use Rattle.attends.proofs.AttendLaws.{at_node, at_mode, at_not, at_there}
use Rattle.attends.proofs.attends_from.Goals as goal

pub returns-then-stands-venue : goal.returns-then-stands-venue
returns-then-stands-venue c = let a = c.args in at_node a.venue.node a.t a.venue.e a.venue.mode a.p a.room a.used a.area.now c.if-stands-venue.true

pub returns-then-ne : goal.returns-then-ne
unfolding same_set
returns-then-ne c = let a = c.args in at_mode a.venue.node a.t a.venue.e a.venue.mode a.p a.room a.used a.area.now c.if-stands-venue.false (not-true _ (sym c.ne.ensures ∙ c.if-ne.true))

pub returns-in_err-invitation : goal.returns-in_err-invitation
unfolding same_set
returns-in_err-invitation c = let a = c.args in
    rw c.from_residual.ensures
    (at_not a.venue.node a.t a.venue.e a.venue.mode a.p a.room a.used a.area.now c.if-stands-venue.false (not-false _ (sym c.ne.ensures ∙ c.if-ne.false)) c.invited.result c.invited.ensures c.in_err-invitation.was)

pub returns : goal.returns
unfolding same_set
returns c = let a = c.args in
    at_there a.venue.node a.t a.venue.e a.venue.mode a.p a.room a.used a.area.now c.if-stands-venue.false (not-false _ (sym c.ne.ensures ∙ c.if-ne.false)) c.invited.result c.invited.ensures _ c.in_ok-invitation.was
