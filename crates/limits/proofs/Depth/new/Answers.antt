-- `limits::Depth::new` meets its contract. Assumes nothing.
use mathlib.Core.Path.{sym}
use native.Mathlib.Omega.{arith}
use Rattle.limits.proofs.DepthLaws.{depth_made, depth_not_made}
use Rattle.limits.proofs.Depth.new.Goals as goal

pub returns-then-k-le-MAX : goal.returns-then-k-le-MAX
returns-then-k-le-MAX c = sym (depth_made _ _)

pub returns-else-k-le-MAX : goal.returns-else-k-le-MAX
returns-else-k-le-MAX c = sym (depth_not_made c.args.k (omega arith))
