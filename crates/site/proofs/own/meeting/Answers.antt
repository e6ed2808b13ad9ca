-- `site::own::meeting` meets its contract. Assumes nothing.
use mathlib.Core.Path.{refl, sym, ap, ◌∙◌}
use Rattle.rules.specs.Names.{names_of}
use Rattle.rules.specs.Rules.{judge}
use Rattle.rules.specs.declared.effects.View.TheVariants.{Site}
use Rattle.area.specs.Levels.{names_at}
use Rattle.lookup.proofs.JointLaws.{one_bound, one_unbound}
use Rattle.site.specs.Own.{meeting_of}
use Rattle.site.proofs.own.meeting.Goals as goal

pub returns-in_default : goal.returns-in_default
unfolding names_of
returns-in_default c = let a = c.args in
    rw c.in-SHARE.is (ap meeting_of (one_unbound (Site a.p) _ a.t.mode (names_at a.area.now a.t.depth.frames) _ refl _ (sym c.in_default.is ∙ c.seek.ensures)))

pub returns-in_default-seek : goal.returns-in_default-seek
unfolding names_of
returns-in_default-seek c = let a = c.args in
    rw c.in-REVEAL.is (ap meeting_of (one_unbound (Site a.p) _ a.t.mode (names_at a.area.now a.t.depth.frames) _ refl _ (sym c.in_default-seek.is ∙ c.seek-in-REVEAL.ensures)))

pub returns-in-Ok : goal.returns-in-Ok
unfolding names_of judge
returns-in-Ok c = let a = c.args in
    rw c.in-SHARE.is (c.meeting_of.ensures ∙ ap meeting_of (c.share.ensures ∙ one_bound (Site a.p) _ a.t.mode (names_at a.area.now a.t.depth.frames) _ refl _ (sym c.in-Ok.is ∙ c.seek.ensures)))

pub returns-in-Ok-seek : goal.returns-in-Ok-seek
unfolding names_of judge
returns-in-Ok-seek c = let a = c.args in
    rw c.in-REVEAL.is (c.meeting_of-in-REVEAL.ensures ∙ ap meeting_of (c.reveal.ensures ∙ one_bound (Site a.p) _ a.t.mode (names_at a.area.now a.t.depth.frames) _ refl _ (sym c.in-Ok-seek.is ∙ c.seek-in-REVEAL.ensures)))
