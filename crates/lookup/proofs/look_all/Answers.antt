-- `lookup::look_all` meets its contract. Assumes nothing.
use mathlib.Core.Path.{sym, ◌∙◌}
use native.Mathlib.Omega.{arith}
use Rattle.area.specs.Levels.{names_at}
use Rattle.lookup.proofs.LookupLaws.{looked_three}
use Rattle.lookup.proofs.look_all.Goals as goal

pub returns : goal.returns
returns c = let a = c.args in
    looked_three a.m (names_at a.w.now a.depth.frames) a.names _ (sym c.seek.ensures ∙ c.in_ok-x.was) _ (sym c.seek-2.ensures ∙ c.in_ok-y.was) _ (omega (arith, c.if-many-eq0.false, c.if-many-eq1.false, c.if-many-eq2.false)) (sym c.seek-3.ensures ∙ c.in_ok-z.was)
