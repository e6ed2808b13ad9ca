-- `advance::strides::strides` meets its contract. Assumes nothing.
use Rattle.std.proofs.Common.{rules}
use Rattle.advance.proofs.strides.strides.Goals as goal

pub returns-in_default : goal.returns-in_default
returns-in_default c = let v = c.loop-next.invariant in (v.0, c.loop-next.t, c.loop-next.work, v.1, search rules)

pub returns-in_default-2 : goal.returns-in_default-2
returns-in_default-2 c = let v = c.loop-next.invariant in (v.0, c.loop-next.t, c.loop-next.work, v.1, search rules)
