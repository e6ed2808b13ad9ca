-- `sites::joined` meets its contract. Assumes nothing.
use mathlib.Core.Path.{subst}
use native.Mathlib.Omega.{arith}
use Rattle.area.specs.Rows.{row_size}
use Rattle.invariants.proofs.RowLaws.{rows}
use Rattle.site.specs.Own.{AskedOwn}
use Rattle.site.specs.declared.own.Own.{Own}
use Rattle.sites.proofs.TurnLaws.{joined_meets, joined_acts}
use Rattle.sites.proofs.joined.Goals as goal

pub act_alone-requires : goal.act_alone-requires
act_alone-requires c = let a = c.args in
    let p = c.requires in (
      omega (arith, rows a.p a.n a.room p.0, p.2),
      omega (arith, p.0, p.3),
      omega (arith, rows a.p a.n row_size p.0, p.4),
      omega (arith, p.0, p.1, p.5),
      omega (arith, p.0, p.1, p.6),
      subst (λ (x : Own). AskedOwn x) c.in-Acts.is c.own_at.ensures.asked,
    )

pub returns-in-Attends : goal.returns-in-Attends
returns-in-Attends c = let a = c.args in
    let o = c.own_at in
    joined_meets a.program.now a.nodes a.p a.n a.room a.inputs.now a.end.now a.at.now a.bytes.now a.lengths.now a.work.now a.t _ c.joint_node-node.ensures o.result o.ensures _ _ c.meet.result _ _ _ c.in-Attends.is c.meet.ensures

pub returns-in-Acts : goal.returns-in-Acts
returns-in-Acts c = let a = c.args in
    let o = c.own_at in
    joined_acts a.program.now a.nodes a.p a.n a.room a.inputs.now a.end.now a.at.now a.bytes.now a.lengths.now a.work.now a.t _ c.joint_node-node.ensures o.result o.ensures _ _ _ _ _ c.in-Acts.is c.act_alone.ensures
