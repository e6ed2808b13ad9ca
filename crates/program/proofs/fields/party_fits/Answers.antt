-- `program::fields::party_fits` meets its contract. Assumes nothing.
use mathlib.Core.Path.{◌∙◌}
use Rattle.program.proofs.FieldLaws.{made_where, both_limits}
use Rattle.program.proofs.fields.party_fits.Goals as goal

pub returns : goal.returns
returns c = rw (c.is_some.ensures, c.new.ensures, c.byte.ensures) (made_where _ _ ∙ both_limits _ _ 16 c.requires)
