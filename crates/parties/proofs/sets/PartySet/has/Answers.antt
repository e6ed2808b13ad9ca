-- `parties::sets::PartySet::has` meets its contract. Assumes nothing.
use mathlib.Core.Path.{refl}
use native.Mathlib.Omega.{arith}
use Rattle.parties.specs.Sets.{member}
use Rattle.parties.proofs.BitLaws.{none_above}
use Rattle.parties.proofs.sets.PartySet.has.Goals as goal

pub returns-then-i-lt-MAX : goal.returns-then-i-lt-MAX
unfolding member
returns-then-i-lt-MAX c = refl

pub returns-else-i-lt-MAX : goal.returns-else-i-lt-MAX
returns-else-i-lt-MAX c = none_above c.args.p.index _ (omega arith) c.if-i-lt-MAX.false
