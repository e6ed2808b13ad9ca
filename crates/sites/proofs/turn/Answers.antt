-- `sites::turn` meets its contract. Assumes nothing.
use native.Mathlib.Omega.{arith}
use Rattle.sites.proofs.TurnLaws.{came_moved}
use Rattle.sites.proofs.turn.Goals as goal

pub returns-in-Moved : goal.returns-in-Moved
returns-in-Moved c = let a = c.args in
    let p = c.requires in
    rw c.in-Some.is (came_moved a.program.now a.nodes a.p a.n a.room a.inputs.now a.end.now a.at.now a.bytes.now a.lengths.now a.work.now _ _ _ _ _ c.in-Moved.is c.landed.ensures (omega (arith, p.0, p.1, p.5)))
