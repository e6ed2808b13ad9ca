-- `area::levels::put_down` meets its contract. Assumes nothing.
use mathlib.Core.Logic.{inl}
use mathlib.Core.Path.{◌∙◌, sym}
use native.Mathlib.Omega.{arith}
use lib.ListN.{length-set}
use Rattle.area.proofs.MoveLaws.{no_deeper, put_down}
use Rattle.area.proofs.levels.put_down.Goals as goal

pub returns-in_default : goal.returns-in_default
returns-in_default c = let a = c.args in no_deeper a.x a.e1 a.e2 a.t a.w.now (sym c.deeper.ensures ∙ c.in_default.is)

pub store2-requires : goal.store2-requires
store2-requires c = simp length-set (omega arith)

pub store_set-requires : goal.store_set-requires
store_set-requires c = simp (c.store2.auto.s, length-set) (omega arith)

pub copy_within-requires : goal.copy_within-requires
copy_within-requires c = simp (c.store_set.auto.s, c.store2.auto.s, length-set) (omega arith, omega arith, inl (omega arith))

pub returns : goal.returns
returns c = let a = c.args in
    put_down a.x a.e1 a.e2 a.t _ c.level_at-at.result a.w.now _ _ _ c.requires c.ranges.e2.fits (omega arith) c.level_at-at.ensures c.store2.ensures c.store_set.ensures c.copy_within.ensures (sym c.deeper.ensures ∙ c.in-Some.is)
