-- `parties::sets::PartySet::is_empty` meets its contract. Assumes nothing.
use mathlib.Core.Path.{refl}
use Rattle.parties.specs.Sets.{is_empty}
use Rattle.parties.proofs.sets.PartySet.is_empty.Goals as goal

pub returns : goal.returns
unfolding is_empty
returns c = refl
