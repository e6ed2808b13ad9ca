-- `nodes::byte` meets its contract. Assumes nothing.
use mathlib.Core.Path.{sym}
use lib.ListN.{get_or-eq_default}
use Rattle.nodes.proofs.byte.Goals as goal

pub returns-else-i-p : goal.returns-else-i-p
returns-else-i-p c = sym (get_or-eq_default c.args.p.now 0 c.if-i-p.false)
