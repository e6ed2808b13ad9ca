-- `parties::sets::PartySet::count` meets its contract. Assumes nothing.
use native.Mathlib.Omega.{arith}
use Rattle.parties.proofs.BitLaws.{ones_are_parties}
use Rattle.parties.proofs.sets.PartySet.count.Goals as goal

pub returns : goal.returns
returns c = ones_are_parties c.args.self (omega arith)
