-- `program::fields::part_fits` meets its contract. Assumes nothing.
use Rattle.program.proofs.fields.part_fits.Goals as goal

pub returns : goal.returns
returns c = rw c.half.ensures
