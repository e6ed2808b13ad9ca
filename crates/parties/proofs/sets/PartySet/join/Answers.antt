-- `parties::sets::PartySet::join` meets its contract. Assumes nothing.
use mathlib.Core.Path.{refl}
use Rattle.parties.specs.Sets.{join}
use Rattle.parties.proofs.sets.PartySet.join.Goals as goal

pub returns : goal.returns
unfolding join
returns c = refl
