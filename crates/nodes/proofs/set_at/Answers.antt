-- `nodes::set_at` meets its contract. Assumes nothing.
use Rattle.nodes.proofs.set_at.Goals as goal

pub returns : goal.returns
returns c = rw c.half.ensures
