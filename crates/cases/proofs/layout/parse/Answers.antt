-- `cases::layout::parse` meets its contract. Assumes nothing.
use mathlib.Core.Path.{◌≡◌, ◌∙◌}
use Prim.Native.Nat.{◌+◌}
use native.Mathlib.Omega.{arith}
use lib.ListN.{get_or}
use Rattle.cases.proofs.InputLaws.{too_many, no_length, no_program, no_counts, no_turns, other_turns, good}
use Rattle.cases.proofs.layout.parse.Goals.{then-size-lt2-via-then-size-lt2, then-size-lt2-via-else-size-lt2+then-size-gt-MAX}
use Rattle.cases.proofs.layout.parse.Goals as goal

pub returns-then-size-lt2-clause-laid_out : goal.returns-then-size-lt2-clause-laid_out
returns-then-size-lt2-clause-laid_out c =
    elim c.then-size-lt2.branch [
      | then-size-lt2-via-then-size-lt2 w ↦ no_length c.args.text.now w.if-size-lt2.true
      | then-size-lt2-via-else-size-lt2+then-size-gt-MAX w ↦ too_many c.args.text.now w.if-size-gt-MAX.true
    ]

pub returns-in_err-k-clause-laid_out : goal.returns-in_err-k-clause-laid_out
returns-in_err-k-clause-laid_out c = c.from_residual.ensures ∙ no_program c.args.text.now _ c.load2.ensures c.in_err-k.ensures.lookup.3

pub returns-then-size-inputs-clause-laid_out : goal.returns-then-size-inputs-clause-laid_out
returns-then-size-inputs-clause-laid_out c =
    let k : c.in_ok-k.field-0.now ≡ get_or c.args.text.now (2 + c.load2.result) 0 = c.in_ok-k.ensures.lookup.4 (omega arith) 0 in
    no_counts c.args.text.now _ c.load2.ensures (omega arith)

pub returns-in_err-left-clause-laid_out : goal.returns-in_err-left-clause-laid_out
returns-in_err-left-clause-laid_out c =
    let k : c.in_ok-k.field-0.now ≡ get_or c.args.text.now (2 + c.load2.result) 0 = c.in_ok-k.ensures.lookup.4 (omega arith) 0 in
    c.from_residual-in_err-left.ensures ∙ no_turns c.args.text.now _ c.load2.ensures _ (rw k at c.sum_of-total.ensures.0) (omega (arith, c.in_err-left.ensures))

pub returns-then-left-load2-clause-laid_out : goal.returns-then-left-load2-clause-laid_out
returns-then-left-load2-clause-laid_out c =
    let k : c.in_ok-k.field-0.now ≡ get_or c.args.text.now (2 + c.load2.result) 0 = c.in_ok-k.ensures.lookup.4 (omega arith) 0 in
    other_turns c.args.text.now _ c.load2.ensures _ (rw k at c.sum_of-total.ensures.0) _ (rw k at c.load2-2.ensures) (λ q. c.if-left-load2.true (omega (arith, c.in_ok-left.ensures)))

pub returns-clause-laid_out : goal.returns-clause-laid_out
returns-clause-laid_out c =
    let k : c.in_ok-k.field-0.now ≡ get_or c.args.text.now (2 + c.load2.result) 0 = c.in_ok-k.ensures.lookup.4 (omega arith) 0 in
    rw k (good c.args.text.now _ c.load2.ensures _ (rw k at c.sum_of-total.ensures.0) _ (rw k at c.load2-2.ensures) (omega (arith, c.in_ok-left.ensures)) (omega arith))
