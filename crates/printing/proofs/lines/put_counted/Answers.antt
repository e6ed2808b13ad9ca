-- `printing::lines::put_counted` meets its contract. Assumes nothing.
use native.Mathlib.Omega.{arith}
use Rattle.text.specs.TextLaws.{puts_then}
use Rattle.printing.proofs.LineLaws.{one_short}
use Rattle.printing.proofs.AnswerLaws.{room_after}
use Rattle.printing.proofs.lines.put_counted.Goals as goal

pub put_records-requires : goal.put_records-requires
put_records-requires c =
    (c.requires.0, room_after c.put_one-end.ensures (omega (arith, one_short c.args.word.now c.args.count, c.requires.1)) c.requires.2)

pub returns : goal.returns
returns c = puts_then c.put_one-end.ensures c.put_records.ensures
