-- `single::runs::run_good` meets its contract. Assumes nothing.
use mathlib.Core.Path.{refl, sym, ap, ◌∙◌}
use Prim.Native.Nat.{ℕ}
use native.Mathlib.Omega.{arith}
use lib.ListN.{replicate}
use lib.Seq.{length-take-le}
use Rattle.rules.specs.Lent.{Lent, room_of}
use Rattle.rules.specs.Calls.{single_of, single_call}
use Rattle.area.specs.Rows.{row_size}
use Rattle.invariants.proofs.LeftLaws.{rooms_within}
use Rattle.inputs.proofs.InputLaws.{counts_fit_is}
use Rattle.ledger.proofs.LentLaws.{bounds, short_places, short_work, enough, fit_parts}
use Rattle.ledger.proofs.CallLaws.{lent, call_counts, call_short}
use Rattle.single.proofs.CallLaws.{call_runs}
use Rattle.single.proofs.runs.run_good.Goals as goal

pub nonzero_div-room : goal.nonzero_div-room
nonzero_div-room c = omega (arith, (bounds _ _ _ c.requires).some_party)

pub returns-then-lengths-parties : goal.returns-then-lengths-parties
unfolding single_call single_of
returns-then-lengths-parties c = let a = c.args in
    let L : Lent = lent a.program.now a.counts.now a.inputs.now a.bytes.now a.lengths.now a.work.now in
    rw c.at-then-lengths-parties.ensures (call_short (single_of L a.budget) L a.n a.nodes c.requires (sym (counts_fit_is a.n L) ∙ sym c.counts_fit.ensures ∙ c.if-counts_fit.true) refl (short_places a.n 1 L (omega arith) c.if-lengths-parties.true))

pub returns-then-work-lt-AREA : goal.returns-then-work-lt-AREA
unfolding single_call single_of
returns-then-work-lt-AREA c = let a = c.args in
    let L : Lent = lent a.program.now a.counts.now a.inputs.now a.bytes.now a.lengths.now a.work.now in
    rw c.at-then-work-lt-AREA.ensures (call_short (single_of L a.budget) L a.n a.nodes c.requires (sym (counts_fit_is a.n L) ∙ sym c.counts_fit.ensures ∙ c.if-counts_fit.true) refl (short_work a.n 1 L (omega arith) c.if-lengths-parties.false c.if-work-lt-AREA.true))

pub slice_bounds-drive-end : goal.slice_bounds-drive-end
slice_bounds-drive-end c = omega (arith, c.if-work-lt-AREA.false)

pub slice_bounds-drive-end-then-counts_fit : goal.slice_bounds-drive-end-then-counts_fit
slice_bounds-drive-end-then-counts_fit c = sym (length-take-le row_size c.args.work.now (omega (arith, c.if-work-lt-AREA.false)))

pub drive-answer-requires : goal.drive-answer-requires
drive-answer-requires c = let a = c.args in
    let g = bounds _ _ _ c.requires in
    let f = fit_parts _ _ _ _ (sym c.counts_fit.ensures ∙ c.if-counts_fit.true) in
    (g.few_parties, g.some_node, g.few_nodes, rooms_within _ _, c.if-lengths-parties.false, length-take-le row_size a.work.now (omega (arith, c.if-work-lt-AREA.false)), f.0, f.1)

pub returns-then-counts_fit : goal.returns-then-counts_fit
unfolding room_of
returns-then-counts_fit c = let a = c.args in
    let L : Lent = lent a.program.now a.counts.now a.inputs.now a.bytes.now a.lengths.now a.work.now in
    call_runs L a.n _ _ _ (c.zero.ensures ∙ ap (λ (i : ℕ). replicate i 0) c.work-1.given.1) a.budget a.nodes _ c.requires (sym (counts_fit_is a.n L) ∙ sym c.counts_fit.ensures ∙ c.if-counts_fit.true)
    (enough a.n 1 L (omega arith) c.if-lengths-parties.false c.if-work-lt-AREA.false) (omega arith) c.drive-answer.ensures

pub returns : goal.returns
unfolding single_call single_of
returns c = let a = c.args in
    let L : Lent = lent a.program.now a.counts.now a.inputs.now a.bytes.now a.lengths.now a.work.now in
    rw c.at-2.ensures (call_counts (single_of L a.budget) L a.n a.nodes c.requires (sym (counts_fit_is a.n L) ∙ sym c.counts_fit.ensures ∙ c.if-counts_fit.false))
