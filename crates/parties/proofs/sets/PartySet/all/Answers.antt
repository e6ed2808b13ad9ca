-- `parties::sets::PartySet::all` meets its contract. Assumes nothing.
use mathlib.Core.Path.{ap}
use Prim.Native.Nat.{ℕ}
use Rattle.parties.specs.Sets.{all}
use Rattle.parties.proofs.BitLaws.{ones_below}
use Rattle.parties.proofs.sets.PartySet.all.Goals as goal

pub overflow_sub-result : goal.overflow_sub-result
overflow_sub-result c = (ones_below c.args.n c.requires).some

pub overflow_cast-result-2 : goal.overflow_cast-result-2
overflow_cast-result-2 c = record { fits = (ones_below c.args.n c.requires).fits }

pub returns : goal.returns
unfolding all
returns c = ap (λ (n : ℕ). record { bits = n }) (ones_below c.args.n c.requires).is
