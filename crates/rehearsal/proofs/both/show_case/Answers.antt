-- `rehearsal::both::show_case` meets its contract. Assumes nothing.
use Rattle.cases.proofs.InputLaws.{loaded}
use Rattle.rehearsal.proofs.BothLaws.{good_put}
use Rattle.rehearsal.proofs.both.show_case.Goals as goal

pub show_both-requires : goal.show_both-requires
show_both-requires c = let h = c.requires in (h.2, h.3)

pub returns : goal.returns
returns c =
    let a = c.args in
    let w = c.requires in
    good_put a.lending a.text.now _
    (loaded a.text.now a.layout w.0 _ _ _ _ _ w.1.counts w.1.inputs c.load_counts.ensures c.load_inputs.ensures c.load4-budget.ensures)
    c.show_both.ensures
