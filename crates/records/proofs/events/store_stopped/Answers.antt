-- `records::events::store_stopped` meets its contract. Assumes nothing.
use Prim.Native.Nat.{ℕ}
use mathlib.Core.Path.{ap}
use lib.ListN.{set}
use mathlib.Core.List.{[], ◌∷◌}
use native.Mathlib.Numerals.{add-one}
use Rattle.words.specs.Words.{low_first}
use Rattle.records.specs.Events.{event_bytes}
use Rattle.records.proofs.StoreLaws.{run_after}
use Rattle.records.proofs.events.store_stopped.Goals as goal

pub returns : goal.returns
unfolding event_bytes
returns c = let a = c.args in
    run_after (7 ∷ a.refusal ∷ []) (low_first 2 a.node) a.s.now _ _ a.at (ap (λ (j : ℕ). set (set a.s.now a.at 7) j a.refusal) (add-one a.at)) c.store2.ensures
