-- `area::levels::hand_back` meets its contract. Assumes nothing.
use mathlib.Core.Path.{refl}
use native.Mathlib.Omega.{arith}
use Rattle.area.proofs.MoveLaws.{ended, handed}
use Rattle.area.proofs.levels.hand_back.Goals as goal

pub returns-then-depth-eq0 : goal.returns-then-depth-eq0
returns-then-depth-eq0 c = let a = c.args in ended a.v a.depth.frames a.w.now c.if-depth-eq0.true

pub returns : goal.returns
returns c = let a = c.args in
    handed a.v a.depth _ c.level_at-at.result c.load2-body.result c.load_set-mode.result a.w.now _ (omega arith) refl c.level_at-at.ensures c.load2-body.ensures c.load_set-mode.ensures c.bind.ensures
