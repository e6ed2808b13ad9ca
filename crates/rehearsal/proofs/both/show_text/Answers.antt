-- `rehearsal::both::show_text` meets its contract. Assumes nothing.
use mathlib.Core.Path.{sym, ◌∙◌}
use native.Mathlib.Omega.{arith}
use lib.Seq.{length-take-le}
use Rattle.text.specs.Text.{ascii}
use Rattle.cases.proofs.InputLaws.{placed, bad_input}
use Rattle.rehearsal.proofs.BothLaws.{bad_put}
use Rattle.rehearsal.proofs.both.show_text.Goals as goal

pub slice_bounds-show_case-end : goal.slice_bounds-show_case-end
slice_bounds-show_case-end c = let w = placed c.args.text.now _ c.in-Some.ensures.laid_out c.in-Some.ensures.few_counts in omega arith

pub slice_bounds-show_case-end-2 : goal.slice_bounds-show_case-end-2
slice_bounds-show_case-end-2 c = let w = placed c.args.text.now _ c.in-Some.ensures.laid_out c.in-Some.ensures.few_counts in sym (length-take-le _ _ (omega arith))

pub slice_bounds-show_case-end-3 : goal.slice_bounds-show_case-end-3
slice_bounds-show_case-end-3 c = let w = placed c.args.text.now _ c.in-Some.ensures.laid_out c.in-Some.ensures.few_counts in omega arith

pub slice_bounds-show_case-end-4 : goal.slice_bounds-show_case-end-4
slice_bounds-show_case-end-4 c = let w = placed c.args.text.now _ c.in-Some.ensures.laid_out c.in-Some.ensures.few_counts in sym (length-take-le _ _ (omega arith))

pub show_case-requires : goal.show_case-requires
show_case-requires c =
    let h = c.requires in
    let w = placed c.args.text.now _ c.in-Some.ensures.laid_out c.in-Some.ensures.few_counts in
    (w, record { counts = length-take-le _ _ (omega arith); inputs = length-take-le _ _ (omega arith) }, h.2, h.3)

pub returns-in_default : goal.returns-in_default
unfolding ascii
returns-in_default c = bad_put _ _ (bad_input c.args.text.now (sym c.in_default.is ∙ c.parse.ensures.laid_out)) c.put.ensures
