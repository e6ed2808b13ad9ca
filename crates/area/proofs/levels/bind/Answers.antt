-- `area::levels::bind` meets its contract. Assumes nothing.
use native.Mathlib.Omega.{arith}
use Rattle.area.proofs.MoveLaws.{bound_not, bound}
use Rattle.area.proofs.levels.bind.Goals as goal

pub returns-then-x-ge-MAX : goal.returns-then-x-ge-MAX
returns-then-x-ge-MAX c = let a = c.args in bound_not a.x a.v a.d.frames a.w.now c.if-x-ge-MAX.true

pub returns : goal.returns
returns c = let a = c.args in
    bound a.x a.v a.d.frames a.w.now c.level_at-at.result _ a.d.within c.requires (omega arith) c.store.ensures.ranged c.level_at-at.ensures c.store.ensures.s_after
