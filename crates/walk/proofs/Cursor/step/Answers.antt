-- `walk::Cursor::step` meets its contract. Assumes nothing.
use native.Mathlib.Omega.{arith}
use mathlib.Core.Path.{sym, ◌∙◌}
use Rattle.walk.proofs.StepLaws.{known, kind_range, at_end, of_no_kind, cut, whole}
use Rattle.walk.proofs.Cursor.step.Goals as goal

pub returns-then-bytes-at : goal.returns-then-bytes-at
returns-then-bytes-at c = at_end _ _ c.if-bytes-at.true

pub returns-in_default : goal.returns-in_default
returns-in_default c = of_no_kind _ _ c.if-bytes-at.false (sym c.in_default.is ∙ c.width_of.ensures)

pub event_at-requires : goal.event_at-requires
event_at-requires c = let w = known _ _ (sym c.in-Some.is ∙ c.width_of.ensures) in
    let r = kind_range _ w.kind in
    (r.0, r.1, omega (arith, w.width))

pub returns-then-bytes-body : goal.returns-then-bytes-body
returns-then-bytes-body c = cut _ _ c.if-bytes-at.false _ (sym c.in-Some.is ∙ c.width_of.ensures) c.if-bytes-body.true

pub returns-else-bytes-body : goal.returns-else-bytes-body
returns-else-bytes-body c = whole _ _ c.if-bytes-at.false _ _ (sym c.in-Some.is ∙ c.width_of.ensures) c.if-bytes-body.false c.event_at.ensures
