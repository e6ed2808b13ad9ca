-- `nodes::set_of` meets its contract. Assumes nothing.
use Rattle.nodes.proofs.set_of.Goals as goal

pub returns : goal.returns
returns c = rw c.pair.ensures
