-- `nodes::node_at` meets its contract. Assumes nothing.
use mathlib.Core.Path.{refl, ◌∙◌}
use native.Mathlib.Omega.{arith}
use Rattle.numbers.proofs.IntegerLaws.{read32}
use Rattle.nodes.specs.Nodes.{node_of}
use Rattle.nodes.proofs.ReadLaws.{body_byte, body_number, kind_is, share_in, reveal_in, other_read}
use Rattle.nodes.proofs.node_at.Goals as goal

pub returns-in-1 : goal.returns-in-1
unfolding node_of
returns-in-1 c =
    let byte_is = body_byte c.args.p.now c.args.at c.window-w.result c.window-w.ensures in
    rw c.name_of.ensures
    (rw (← byte_is 0 (omega arith)) at (kind_is _ _ _ c.window-w.ensures c.octet.ensures 1 c.in-1.is))

pub returns-in-2 : goal.returns-in-2
unfolding node_of
returns-in-2 c =
    let number_is = body_number c.args.p.now c.args.at c.window-w.result c.window-w.ensures in
    rw (read32 _ (record { sfits = c.signed.type_inv }), c.signed.ensures, c.quad.ensures)
    (rw (← number_is 4 0 (omega arith)) at (kind_is _ _ _ c.window-w.ensures c.octet.ensures 2 c.in-2.is))

pub returns-in-3 : goal.returns-in-3
unfolding node_of
returns-in-3 c =
    let byte_is = body_byte c.args.p.now c.args.at c.window-w.result c.window-w.ensures in
    rw (c.octet-in-3.ensures, c.name_of-in-3.ensures, c.name_of-in-3-2.ensures)
    (rw (← byte_is 0 (omega arith), ← byte_is 1 (omega arith), ← byte_is 2 (omega arith)) at (kind_is _ _ _ c.window-w.ensures c.octet.ensures 3 c.in-3.is))

pub returns-in-4 : goal.returns-in-4
unfolding node_of
returns-in-4 c =
    let byte_is = body_byte c.args.p.now c.args.at c.window-w.result c.window-w.ensures in
    rw (c.name_of-in-4.ensures, c.name_of-in-4-2.ensures, c.name_of-in-4-3.ensures)
    (rw (← byte_is 0 (omega arith), ← byte_is 1 (omega arith), ← byte_is 2 (omega arith)) at (kind_is _ _ _ c.window-w.ensures c.octet.ensures 4 c.in-4.is))

pub returns-in-6 : goal.returns-in-6
unfolding node_of
returns-in-6 c =
    let byte_is = body_byte c.args.p.now c.args.at c.window-w.result c.window-w.ensures in
    rw c.name_of-in-6.ensures
    (rw (← byte_is 0 (omega arith)) at (kind_is _ _ _ c.window-w.ensures c.octet.ensures 6 c.in-6.is))

pub returns-in-7 : goal.returns-in-7
unfolding node_of
returns-in-7 c =
    let byte_is = body_byte c.args.p.now c.args.at c.window-w.result c.window-w.ensures in
    rw c.name_of-in-7.ensures
    (rw (← byte_is 0 (omega arith)) at (kind_is _ _ _ c.window-w.ensures c.octet.ensures 7 c.in-7.is))

pub returns-in-8 : goal.returns-in-8
returns-in-8 c =
    rw (c.octet-in-8.ensures, c.set_of.ensures, c.name_of-in-8.ensures)
    (share_in _ _ _ c.window-w.ensures c.octet.ensures c.in-8.is)

pub returns-in-9 : goal.returns-in-9
returns-in-9 c =
    rw (c.set_of-in-9.ensures, c.name_of-in-9.ensures)
    (reveal_in _ _ _ c.window-w.ensures c.octet.ensures c.in-9.is)

pub returns-in-10 : goal.returns-in-10
unfolding node_of
returns-in-10 c =
    let byte_is = body_byte c.args.p.now c.args.at c.window-w.result c.window-w.ensures in
    let number_is = body_number c.args.p.now c.args.at c.window-w.result c.window-w.ensures in
    rw (c.name_of-in-10.ensures, c.pair.ensures, c.pair-in-10.ensures)
    (rw (← byte_is 0 (omega arith), ← number_is 2 1 (omega arith), ← number_is 2 3 (omega arith)) at (kind_is _ _ _ c.window-w.ensures c.octet.ensures 10 c.in-10.is))

pub returns-in-11 : goal.returns-in-11
unfolding node_of
returns-in-11 c =
    let byte_is = body_byte c.args.p.now c.args.at c.window-w.result c.window-w.ensures in
    let number_is = body_number c.args.p.now c.args.at c.window-w.result c.window-w.ensures in
    rw (c.name_of-in-11.ensures, c.pair-in-11.ensures, c.pair-in-11-2.ensures)
    (rw (← byte_is 0 (omega arith), ← number_is 2 1 (omega arith), ← number_is 2 3 (omega arith)) at (kind_is _ _ _ c.window-w.ensures c.octet.ensures 11 c.in-11.is))

pub returns-in-12 : goal.returns-in-12
unfolding node_of
returns-in-12 c =
    let number_is = body_number c.args.p.now c.args.at c.window-w.result c.window-w.ensures in
    rw (c.set_of-in-12.ensures, c.pair-in-12.ensures)
    (rw (← number_is 2 0 (omega arith), ← number_is 2 2 (omega arith)) at (kind_is _ _ _ c.window-w.ensures c.octet.ensures 12 c.in-12.is))

pub returns-in-13 : goal.returns-in-13
unfolding node_of
returns-in-13 c =
    let byte_is = body_byte c.args.p.now c.args.at c.window-w.result c.window-w.ensures in
    let number_is = body_number c.args.p.now c.args.at c.window-w.result c.window-w.ensures in
    rw (c.pair-in-13.ensures, c.name_of-in-13.ensures)
    (rw (← number_is 2 0 (omega arith), ← byte_is 2 (omega arith)) at (kind_is _ _ _ c.window-w.ensures c.octet.ensures 13 c.in-13.is))

pub returns-in_default : goal.returns-in_default
returns-in_default c = other_read _ _ c.in_default.in_default-own.rest ∙ kind_is _ _ _ c.window-w.ensures c.octet.ensures _ refl
