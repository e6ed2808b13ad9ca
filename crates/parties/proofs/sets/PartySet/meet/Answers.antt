-- `parties::sets::PartySet::meet` meets its contract. Assumes nothing.
use mathlib.Core.Path.{refl}
use Rattle.parties.specs.Sets.{meet}
use Rattle.parties.proofs.sets.PartySet.meet.Goals as goal

pub returns : goal.returns
unfolding meet
returns c = refl
