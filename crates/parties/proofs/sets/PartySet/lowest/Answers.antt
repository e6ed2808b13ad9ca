-- `parties::sets::PartySet::lowest` meets its contract. Assumes nothing.
use Rattle.parties.proofs.BitLaws.{zeros_few, zeros_are_below}
use Rattle.parties.proofs.sets.PartySet.lowest.Goals as goal

pub overflow_cast-result : goal.overflow_cast-result
overflow_cast-result c = record { fits = zeros_few _ }

pub returns : goal.returns
returns c = zeros_are_below _
