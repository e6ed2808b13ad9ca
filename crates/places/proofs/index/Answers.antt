-- `places::index` meets its contract. Assumes nothing.
use Rattle.places.proofs.PlaceLaws.{listing_start, listing_on}
use Rattle.places.proofs.index.Goals as goal

pub loop-k-init : goal.loop-k-init
loop-k-init c = let a = c.args in listing_start a.program.now a.nodes a.table.now

pub loop-k-preserved : goal.loop-k-preserved
loop-k-preserved c = let a = c.args in listing_on a.program.now a.nodes a.table.now _ _ _ c.loop-k.invariant c.requires.0 c.requires.1 c.loop-k-test.true _ c.store2.ensures _ c.next_at-at.ensures
