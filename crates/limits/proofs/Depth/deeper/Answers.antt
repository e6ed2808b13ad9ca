-- `limits::Depth::deeper` meets its contract. Assumes nothing.
use mathlib.Core.Path.{sym}
use Prim.Native.Nat.{◌+◌}
use native.Mathlib.Omega.{arith}
use Rattle.limits.proofs.DepthLaws.{depth_made, depth_not_made}
use Rattle.limits.proofs.Depth.deeper.Goals as goal

pub returns-then-k-lt-MAX : goal.returns-then-k-lt-MAX
returns-then-k-lt-MAX c = sym (depth_made _ _)

pub returns-else-k-lt-MAX : goal.returns-else-k-lt-MAX
returns-else-k-lt-MAX c = sym (depth_not_made (c.args.self.frames + 1) (omega arith))
