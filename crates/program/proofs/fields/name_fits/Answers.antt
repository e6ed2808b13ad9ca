-- `program::fields::name_fits` meets its contract. Assumes nothing.
use Rattle.program.proofs.FieldLaws.{made_where}
use Rattle.program.proofs.fields.name_fits.Goals as goal

pub returns : goal.returns
returns c = rw (c.is_some.ensures, c.new.ensures, c.byte.ensures) (made_where _ _)
