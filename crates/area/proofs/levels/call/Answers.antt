-- `area::levels::call` meets its contract. Assumes nothing.
use Prim.Native.Nat.{ℕ, ◌+◌, ◌-◌}
use native.Mathlib.Omega.{arith}
use Rattle.area.proofs.MoveLaws.{called}
use Rattle.area.proofs.levels.call.Goals as goal

pub returns : goal.returns
returns c = let a = c.args in
    let at : ℕ = c.level_at-from.result in
    called a.f a.v a.t at (at + 144 - at) a.w.now _ _ c.requires c.level_at-from.ensures (omega arith) c.zero.ensures c.bind.ensures
