-- `parties::bytes::load_set` meets its contract. Assumes nothing.
use mathlib.Core.Path.{ap}
use Prim.Native.Nat.{ℕ}
use Rattle.parties.proofs.bytes.load_set.Goals as goal

pub returns : goal.returns
returns c = ap (λ (n : ℕ). record { bits = n }) c.load2.ensures
