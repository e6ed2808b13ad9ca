-- `joint::runs::run_good` meets its contract. Assumes nothing.
use mathlib.Core.Bool.{not}
use mathlib.Core.Path.{sym, ap, ◌∙◌}
use Prim.Native.Nat.{ℕ}
use borrow.Author.Tests.{not-true, not-false}
use Rattle.rules.specs.Lent.{Lent}
use Rattle.rules.specs.Calls.{joint_of, joint_call}
use Rattle.inputs.proofs.InputLaws.{counts_fit_is}
use Rattle.ledger.proofs.LentLaws.{fit_parts}
use Rattle.ends.specs.Ends.{found}
use Rattle.std.specs.Prelude.{Option}
use Rattle.ledger.proofs.CallLaws.{lent, call_counts, call_turn}
use Rattle.joint.proofs.runs.run_good.Goals as goal

pub returns-then-not-counts_fit : goal.returns-then-not-counts_fit
unfolding joint_call joint_of
returns-then-not-counts_fit c = let a = c.args in
    let L : Lent = lent a.program.now a.counts.now a.inputs.now a.bytes.now a.lengths.now a.work.now in
    rw c.at.ensures (call_counts (joint_of L a.turns.now) L a.n a.nodes c.requires (sym (counts_fit_is a.n L) ∙ sym c.counts_fit.ensures ∙ not-true _ (ap not c.if-not-counts_fit.true)))

pub run_lent-requires : goal.run_lent-requires
run_lent-requires c = let f = fit_parts _ _ _ _ (sym c.counts_fit.ensures ∙ not-false _ (ap not c.if-not-counts_fit.false)) in
    (c.requires, f.0, f.1, sym c.bad_turn.ensures ∙ ap (λ (x : Option ℕ). found x) c.in_default.is)

pub returns-in-Some : goal.returns-in-Some
unfolding joint_call joint_of
returns-in-Some c = let a = c.args in
    let L : Lent = lent a.program.now a.counts.now a.inputs.now a.bytes.now a.lengths.now a.work.now in
    rw c.at-in-Some.ensures (call_turn (joint_of L a.turns.now) L a.n a.nodes c.requires _ (sym (counts_fit_is a.n L) ∙ sym c.counts_fit.ensures ∙ not-false _ (ap not c.if-not-counts_fit.false)) (sym c.bad_turn.ensures ∙ ap (λ (x : Option ℕ). found x) c.in-Some.is))
