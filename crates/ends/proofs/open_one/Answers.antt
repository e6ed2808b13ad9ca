-- `ends::open_one` meets its contract. Assumes nothing.
use native.Mathlib.Omega.{arith}
use Rattle.ends.proofs.EndsLaws.{opens}
use Rattle.ends.proofs.open_one.Goals as goal

pub returns : goal.returns
returns c = let a = c.args in
    opens a.program.now a.nodes a.start c.prepare.new.w c.save_seat.new.w (omega arith) c.prepare.ensures c.save_seat.ensures
