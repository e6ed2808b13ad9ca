-- `printing::lines::put_records` meets its contract. Assumes nothing.
use native.Mathlib.Omega.{arith}
use Rattle.text.specs.TextLaws.{puts_length}
use Rattle.printing.proofs.LineLaws.{lines_none, lines_more, lines_all, part_inside, part_is, line_room}
use Rattle.printing.proofs.lines.put_records.Goals as goal

pub loop-party-init : goal.loop-party-init
loop-party-init c = lines_none _ _ _ _ _

pub overflow_mul-start : goal.overflow_mul-start
overflow_mul-start c = omega (arith, part_inside _ _ _ c.requires.0 _ c.loop-party-test.true)

pub offset_bounds-lengths-party : goal.offset_bounds-lengths-party
offset_bounds-lengths-party c = omega (arith, part_inside _ _ _ c.requires.0 _ c.loop-party-test.true)

pub bounds-lengths-party : goal.bounds-lengths-party
bounds-lengths-party c = omega (arith, c.requires.0.places)

pub overflow_add-end : goal.overflow_add-end
overflow_add-end c = omega (arith, part_inside _ _ _ c.requires.0 _ c.loop-party-test.true)

pub slice_bounds-put_party-end : goal.slice_bounds-put_party-end
slice_bounds-put_party-end c = omega (arith, part_inside _ _ _ c.requires.0 _ c.loop-party-test.true)

pub put_party-to-requires : goal.put_party-to-requires
put_party-to-requires c =
    let a = c.args in
    let v = c.loop-party.invariant in
    rw (part_is a.n a.records.now a.lengths.now c.loop-party.party)
    (omega (arith, puts_length v, line_room _ _ _ c.requires.0 _ _ _ _ _ c.loop-party-test.true c.requires.1 v))

pub loop-party-preserved : goal.loop-party-preserved
loop-party-preserved c =
    let a = c.args in
    let q = rw (part_is a.n a.records.now a.lengths.now c.loop-party.party) at c.put_party-to.ensures in
    lines_more _ _ _ _ _ _ _ _ _ _ c.loop-party.invariant q

pub returns : goal.returns
returns c = lines_all _ _ _ _ _ _ _ _ (omega arith) c.loop-party.invariant
