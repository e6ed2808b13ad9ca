-- `nodes::name_of` meets its contract. Assumes nothing.
use Rattle.nodes.proofs.name_of.Goals as goal

pub returns : goal.returns
returns c = rw c.octet.ensures
