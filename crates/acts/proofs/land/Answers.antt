-- `acts::land` meets its contract. Assumes nothing.
use Rattle.acts.proofs.ActLaws.{lands_on, lands_end, lands_full}
use Rattle.acts.proofs.land.Goals as goal

pub returns-in-On : goal.returns-in-On
returns-in-On c = let a = c.args in lands_on a.node a.used a.bytes.now a.area.now a.next _ _ c.in-On.is c.save_seat.ensures

pub returns-in-Ends : goal.returns-in-Ends
returns-in-Ends c = let a = c.args in lands_end a.node a.used a.bytes.now a.area.now a.next _ c.finish.result _ _ c.in-Ends.is c.finish.ensures

pub returns-in-Full : goal.returns-in-Full
returns-in-Full c = let a = c.args in lands_full a.node a.used a.bytes.now a.area.now a.next c.refuse.result _ _ c.in-Full.is c.refuse.ensures
