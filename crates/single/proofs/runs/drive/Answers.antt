-- `single::runs::drive` meets its contract. Assumes nothing.
use mathlib.Core.Path.{refl}
use Rattle.single.proofs.DriveLaws.{drives_by}
use Rattle.single.proofs.runs.drive.Goals as goal

pub returns : goal.returns
returns c = let a = c.args in
    drives_by a.program.now a.n a.nodes a.room a.counts.now a.inputs.now a.budget _ a.bytes.now a.lengths.now _ _ _ _ _ _ _ _ c.requires.3 c.requires.4 c.divide.ensures c.clear_lengths.ensures c.prepare.ensures c.all.ensures refl c.run_on.ensures
