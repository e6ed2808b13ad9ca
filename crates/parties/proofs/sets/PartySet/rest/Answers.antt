-- `parties::sets::PartySet::rest` meets its contract. Assumes nothing.
use mathlib.Core.Path.{refl}
use Rattle.parties.specs.Sets.{rest}
use Rattle.parties.proofs.sets.PartySet.rest.Goals as goal

pub returns : goal.returns
unfolding rest
returns c = refl
