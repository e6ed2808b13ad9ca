-- `seats::load_seat` meets its contract. Assumes nothing.
use mathlib.Core.Path.{sym, ◌∙◌}
use Rattle.seats.proofs.SeatLaws.{load_not, load_running}
use Rattle.seats.proofs.load_seat.Goals as goal

pub returns-in_default : goal.returns-in_default
returns-in_default c = load_not c.args.w.now c.if-how-ne-RUNNING.false (sym c.new.ensures ∙ c.in_default.is)

pub returns : goal.returns
returns c = load_running c.args.w.now _ _ _ c.if-how-ne-RUNNING.false (sym c.new.ensures ∙ c.in-Some.is) c.load2.ensures c.load_set.ensures
