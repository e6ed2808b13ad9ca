-- `printing::lines::put_joint` meets its contract. Assumes nothing.
use native.Mathlib.Omega.{arith}
use Rattle.text.specs.Text.{ascii}
use Rattle.printing.specs.Lines.{joint_lines, after_joint}
use Rattle.printing.proofs.AnswerLaws.{lines_of}
use Rattle.printing.proofs.lines.put_joint.Goals as goal

pub put_counted-requires : goal.put_counted-requires
put_counted-requires c = (rw c.in-Complete.is at c.requires.0, omega arith, c.requires.1)

pub put_counted-requires-in-Open : goal.put_counted-requires-in-Open
put_counted-requires-in-Open c = (rw c.in-Open.is at c.requires.0, omega arith, c.requires.1)

pub returns-in-Refused : goal.returns-in-Refused
unfolding joint_lines after_joint ascii
returns-in-Refused c = rw c.in-Refused.is c.put_two.ensures

pub returns-in-Complete : goal.returns-in-Complete
unfolding joint_lines after_joint ascii
returns-in-Complete c = rw (c.in-Complete.is, ← lines_of) c.put_counted.ensures

pub returns-in-Open : goal.returns-in-Open
unfolding joint_lines after_joint ascii
returns-in-Open c = rw (c.in-Open.is, ← lines_of) c.put_counted-in-Open.ensures
