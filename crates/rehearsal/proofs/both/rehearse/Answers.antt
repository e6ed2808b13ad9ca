-- `rehearsal::both::rehearse` meets its contract. Assumes nothing.
use mathlib.Core.Path.{sym}
use native.Mathlib.Omega.{arith}
use lib.Seq.{length-take-le}
use Rattle.rehearsal.proofs.both.rehearse.Goals as goal

pub slice_bounds-show_text-end-4 : goal.slice_bounds-show_text-end-4
slice_bounds-show_text-end-4 c = sym (length-take-le _ _ c.requires.records)

pub slice_bounds-show_text-end-6 : goal.slice_bounds-show_text-end-6
slice_bounds-show_text-end-6 c = sym (length-take-le _ _ c.requires.lengths)

pub show_text-requires : goal.show_text-requires
show_text-requires c =
    let a = c.args in
    let h = c.requires in
    let e = length-take-le a.lending.records a.records.now h.records in
    let g = length-take-le a.lending.lengths a.lengths.now h.lengths in
    (omega arith, omega arith, record { records = e; lengths = g }, record { capped = h.capped; records = omega arith; lengths = omega arith; single = h.single; joint = h.joint; room = h.room })
