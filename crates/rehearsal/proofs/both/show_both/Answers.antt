-- `rehearsal::both::show_both` meets its contract. Assumes nothing.
use mathlib.Core.Path.{◌≡◌, sym}
use native.Mathlib.Omega.{arith}
use lib.ListN.{length}
use lib.Seq.{length-take-le}
use Rattle.rehearsal.proofs.BothLaws.{both_put}
use Rattle.rehearsal.proofs.both.show_both.Goals as goal

pub slice_bounds-show_single-end-2 : goal.slice_bounds-show_single-end-2
slice_bounds-show_single-end-2 c = sym (length-take-le _ _ (omega arith))

pub slice_bounds-show_joint-end-2 : goal.slice_bounds-show_joint-end-2
slice_bounds-show_joint-end-2 c = sym (length-take-le _ _ (omega arith))

pub returns : goal.returns
returns c =
    let a = c.args in
    let h = c.requires in
    let e : length c.show_single-end.new.records ≡ a.lending.records = omega (arith, c.show_single-end.auto.records, h.0.records) in
    let g : length c.show_single-end.new.lengths ≡ a.lending.lengths = omega (arith, c.show_single-end.auto.lengths, h.0.lengths) in
    both_put a.program.now a.counts.now a.inputs.now a.budget a.turns.now a.lending _ _ _ _ _ _
    h.0.records h.0.lengths (length-take-le a.lending.single a.work.now h.1.single) e g (length-take-le _ _ (omega arith))
    c.show_single-end.ensures c.show_joint.ensures
