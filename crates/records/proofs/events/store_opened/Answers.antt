-- `records::events::store_opened` meets its contract. Assumes nothing.
use mathlib.Core.List.{◌∷◌}
use Rattle.words.specs.Words.{integer_bytes, low_first}
use Rattle.parties.specs.SetBytes.{set_bytes}
use Rattle.numbers.proofs.IntegerLaws.{read32}
use Rattle.records.specs.Events.{event_bytes}
use Rattle.records.proofs.StoreLaws.{run_after}
use Rattle.records.proofs.events.store_opened.Goals as goal

pub returns : goal.returns
unfolding event_bytes low_first
returns c = let a = c.args in
    run_after (4 ∷ set_bytes a.q) (integer_bytes a.i) a.s.now _ _ a.at c.store_byte_and_set.ensures (simp (read32 a.i c.ranges.i) at c.store_integer.ensures)
