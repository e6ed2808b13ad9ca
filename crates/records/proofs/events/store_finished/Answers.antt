-- `records::events::store_finished` meets its contract. Assumes nothing.
use mathlib.Core.List.{[], ◌∷◌, ◌++◌}
use mathlib.Core.Path.{refl}
use Rattle.words.specs.Words.{low_first, integer_bytes}
use Rattle.parties.specs.SetBytes.{set_bytes}
use Rattle.numbers.proofs.IntegerLaws.{read32}
use Rattle.records.specs.Events.{event_bytes}
use Rattle.records.proofs.StoreLaws.{run_after}
use Rattle.records.proofs.events.store_finished.Goals as goal

pub returns : goal.returns
unfolding event_bytes low_first
returns c = let a = c.args in
    let w = simp (read32 a.i c.ranges.i) at c.store_byte_and_integer.ensures in
    let e1 = run_after (6 ∷ []) (a.tag ∷ integer_bytes a.i) a.s.now _ _ a.at refl w in
    let e2 = run_after (6 ∷ a.tag ∷ integer_bytes a.i) (set_bytes a.l) a.s.now _ _ a.at e1 c.store_set.ensures in
    run_after (6 ∷ a.tag ∷ integer_bytes a.i ++ set_bytes a.l) (set_bytes a.h) a.s.now _ _ a.at e2 c.store_set-2.ensures
