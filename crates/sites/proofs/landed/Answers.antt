-- `sites::landed` meets its contract. Assumes nothing.
use mathlib.Core.Path.{refl, ◌∙◌}
use Rattle.area.specs.Rows.{row_size}
use Rattle.area.proofs.RowLaws.{row_length}
use Rattle.sites.proofs.landed.Goals as goal

pub returns : goal.returns
returns c = let a = c.args in
    let l = c.land in
    record {
      used = l.result;
      own = _;
      area = _;
      lands = l.ensures;
      long = l.auto.area ∙ row_length row_size a.p a.work.now c.requires.2;
      records = refl;
      counts = refl;
      areas = refl;
    }
