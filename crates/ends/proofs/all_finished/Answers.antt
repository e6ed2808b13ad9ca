-- `ends::all_finished` meets its contract. Assumes nothing.
use mathlib.Core.Bool.{not}
use mathlib.Core.Path.{ap}
use Rattle.ends.proofs.EndsLaws.{finish_not}
use Rattle.ends.proofs.all_finished.Goals as goal

pub returns-then-not-is_finished : goal.returns-then-not-is_finished
returns-then-not-is_finished c = let a = c.args in
    finish_not a.n a.work.now c.loop-p.p c.loop-p-test.true c.is_finished.result c.is_finished.ensures (ap not c.if-not-is_finished.true)
