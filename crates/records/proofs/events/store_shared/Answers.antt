-- `records::events::store_shared` meets its contract. Assumes nothing.
use mathlib.Core.List.{[], ◌∷◌}
use mathlib.Core.Path.{refl}
use Rattle.parties.specs.SetBytes.{set_bytes}
use Rattle.records.specs.Events.{event_bytes}
use Rattle.records.proofs.StoreLaws.{run_after}
use Rattle.records.proofs.events.store_shared.Goals as goal

pub returns : goal.returns
unfolding event_bytes
returns c = let a = c.args in
    run_after (3 ∷ []) (a.a.index ∷ set_bytes a.q) a.s.now _ _ a.at refl c.store_byte_and_set.ensures
