-- `single_step::arrive` meets its contract. Assumes nothing.
use Rattle.single_step.proofs.StepLaws.{arrives_on, arrives_end, arrives_full}
use Rattle.single_step.proofs.arrive.Goals as goal

pub returns-in-On : goal.returns-in-On
returns-in-On c = let a = c.args in
    rw c.in-On.is (arrives_on a.room a.n a.bytes.now a.lengths.now _)

pub returns-in-Ends : goal.returns-in-Ends
returns-in-Ends c = let a = c.args in
    rw c.in-Ends.is (arrives_end a.room a.n a.bytes.now a.lengths.now _ _ _ c.finish_all.ensures)

pub returns-in-Full : goal.returns-in-Full
returns-in-Full c = let a = c.args in
    rw c.in-Full.is (arrives_full a.room a.n a.bytes.now a.lengths.now)
