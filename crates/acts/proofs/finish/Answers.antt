-- `acts::finish` meets its contract. Assumes nothing.
use Rattle.acts.proofs.ActLaws.{finishes}
use Rattle.acts.proofs.finish.Goals as goal

pub returns : goal.returns
returns c = let a = c.args in finishes a.used a.bytes.now c.close.result _ a.area.now _ a.v c.finished.result c.finished.ensures c.save_seat.ensures c.close.ensures
