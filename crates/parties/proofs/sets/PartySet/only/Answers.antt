-- `parties::sets::PartySet::only` meets its contract. Assumes nothing.
use mathlib.Core.Path.{ap}
use Prim.Native.Nat.{ℕ}
use Rattle.parties.specs.Sets.{only}
use Rattle.parties.proofs.BitLaws.{shifted_one}
use Rattle.parties.proofs.sets.PartySet.only.Goals as goal

pub returns : goal.returns
unfolding only
returns c = ap (λ (n : ℕ). record { bits = n }) (shifted_one 16 c.args.p.index c.requires)
