-- `table::prepare` meets its contract. Assumes nothing.
use mathlib.Core.Path.{sym, ◌∙◌}
use native.Mathlib.Omega.{arith}
use lib.Seq.{length-take-le}
use Rattle.table.proofs.TableLaws.{patched, cleared_length, cleared, prepared}
use Rattle.table.proofs.prepare.Goals as goal

pub slice_bounds-index-end-2 : goal.slice_bounds-index-end-2
slice_bounds-index-end-2 c = let a = c.args in
    let z = cleared_length a.w.now c.zero.new.s c.requires.1 c.zero.ensures in
    sym (length-take-le 2048 (patched a.w.now c.zero.new.s) (omega (arith, z, c.requires.1)))

pub index-requires : goal.index-requires
index-requires c = let a = c.args in
    let z = cleared_length a.w.now c.zero.new.s c.requires.1 c.zero.ensures in
    (c.requires.0, rw (length-take-le 2048 (patched a.w.now c.zero.new.s) (omega (arith, z, c.requires.1))) (omega (arith, c.requires.0)))

pub returns : goal.returns
returns c = let a = c.args in
    let ys = c.zero.new.s in
    let p = c.requires in
    let z = cleared_length a.w.now ys p.1 c.zero.ensures in
    prepared a.program.now a.nodes c.index.new.table (patched a.w.now ys) p.0 (cleared a.w.now ys p.1 c.zero.ensures) (c.index.auto.table ∙ length-take-le 2048 (patched a.w.now ys) (omega (arith, z, p.1))) c.index.ensures
