-- `acts::stop` meets its contract. Assumes nothing.
use Rattle.acts.proofs.ActLaws.{stops}
use Rattle.acts.proofs.stop.Goals as goal

pub returns : goal.returns
returns c = let a = c.args in stops a.used a.bytes.now c.close.result _ a.area.now _ a.number a.node c.save_seat.ensures c.close.ensures
