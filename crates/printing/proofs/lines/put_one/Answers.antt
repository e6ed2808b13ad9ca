-- `printing::lines::put_one` meets its contract. Assumes nothing.
use native.Mathlib.Omega.{arith}
use Rattle.text.specs.TextLaws.{decimal_short, puts_length, puts_then}
use Rattle.text.specs.Text.{ascii}
use Rattle.printing.specs.Lines.{one_number}
use Rattle.printing.proofs.lines.put_one.Goals as goal

pub put-requires : goal.put-requires
put-requires c =
    let p = c.put-end.ensures in
    let q = c.put_decimal-end_x.ensures in
    omega (arith, p.end, q.end, puts_length p, puts_length q, decimal_short c.args.x)

pub returns : goal.returns
unfolding one_number ascii
returns c = puts_then c.put-end.ensures (puts_then c.put_decimal-end_x.ensures c.put.ensures)
