-- `printing::lines::put_single` meets its contract. Assumes nothing.
use native.Mathlib.Omega.{arith}
use Rattle.text.specs.Text.{ascii}
use Rattle.text.specs.TextLaws.{puts_then}
use Rattle.printing.specs.Lines.{single_lines, after_single}
use Rattle.printing.proofs.LineLaws.{two_short}
use Rattle.printing.proofs.AnswerLaws.{room_after, lines_of}
use Rattle.printing.proofs.lines.put_single.Goals as goal

pub put_records-requires : goal.put_records-requires
put_records-requires c = (rw c.in-Stopped.is at c.requires.0, room_after c.put_two-end.ensures (two_short _ _ _) c.requires.1)

pub put_counted-requires : goal.put_counted-requires
put_counted-requires c = (rw c.in-Ended.is at c.requires.0, omega arith, c.requires.1)

pub put_counted-requires-in-Budget : goal.put_counted-requires-in-Budget
put_counted-requires-in-Budget c = (rw c.in-Budget.is at c.requires.0, omega arith, c.requires.1)

pub returns-in-Refused : goal.returns-in-Refused
unfolding single_lines after_single ascii
returns-in-Refused c = rw c.in-Refused.is c.put_two.ensures

pub returns-in-Stopped : goal.returns-in-Stopped
unfolding single_lines after_single ascii
returns-in-Stopped c = rw (c.in-Stopped.is, ← lines_of) (puts_then c.put_two-end.ensures c.put_records.ensures)

pub returns-in-Ended : goal.returns-in-Ended
unfolding single_lines after_single ascii
returns-in-Ended c = rw (c.in-Ended.is, ← lines_of) c.put_counted.ensures

pub returns-in-Budget : goal.returns-in-Budget
unfolding single_lines after_single ascii
returns-in-Budget c = rw (c.in-Budget.is, ← lines_of) c.put_counted-in-Budget.ensures
