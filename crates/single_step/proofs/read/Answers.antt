-- `single_step::read` meets its contract. Assumes nothing.
use mathlib.Core.Path.{sym, ◌∙◌}
use native.Mathlib.Omega.{arith}
use Rattle.parties.specs.SetLaws.{lowest_one}
use Rattle.numbers.proofs.IntegerLaws.{read32}
use Rattle.single_step.proofs.ReadLaws.{read_none, read_some}
use Rattle.single_step.proofs.read.Goals as goal

pub next_input-requires : goal.next_input-requires
next_input-requires c =
    let q = (lowest_one _ c.requires.2).1 in
    (omega (arith, q, c.lowest-p.ensures), omega (arith, q, c.lowest-p.ensures))

pub returns-in_default : goal.returns-in_default
returns-in_default c =
    let a = c.args in
    read_none a.inputs.now a.end.now a.at.now a.m c.requires.2 _ c.lowest-p.ensures (sym c.next_input.ensures ∙ c.in_default.is)

pub bounds-at-p : goal.bounds-at-p
bounds-at-p c = omega (arith, (lowest_one _ c.requires.2).1, c.lowest-p.ensures)

pub bounds-at-p-2 : goal.bounds-at-p-2
bounds-at-p-2 c = omega (arith, (lowest_one _ c.requires.2).1, c.lowest-p.ensures)

pub returns : goal.returns
returns c =
    let a = c.args in
    rw (read32 c.in-Some.i (record { sfits = omega arith })) (read_some a.inputs.now a.end.now a.at.now a.m c.requires.2 _ c.lowest-p.ensures c.in-Some.i c.requires.0 (sym c.next_input.ensures ∙ c.in-Some.is))
