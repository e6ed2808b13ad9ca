-- `printing::lines::put_records`: what its loop keeps.
use Rattle.text.specs.Text.{Puts}
use Rattle.printing.proofs.LineLaws.{lines_below}
use Rattle.printing.proofs.lines.put_records.Given as goal

abbrev pub invariant-loop-party : goal.invariant-loop-party
invariant-loop-party l = Puts (lines_below l.n l.records l.lengths l.party) l.at l.to l.initial.out l.out
