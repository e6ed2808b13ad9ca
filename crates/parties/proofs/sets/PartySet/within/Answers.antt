-- `parties::sets::PartySet::within` meets its contract. Assumes nothing.
use native.Mathlib.Omega.{arith}
use Rattle.parties.proofs.BitLaws.{shifted_within, all_within}
use Rattle.parties.proofs.sets.PartySet.within.Goals as goal

pub returns-then-n-lt-MAX : goal.returns-then-n-lt-MAX
returns-then-n-lt-MAX c = shifted_within _ _

pub returns-else-n-lt-MAX : goal.returns-else-n-lt-MAX
returns-else-n-lt-MAX c = all_within _ _ (omega arith) c.if-n-lt-MAX.false
