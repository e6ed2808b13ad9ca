-- `printing::lines::put_two` meets its contract. Assumes nothing.
use native.Mathlib.Omega.{arith}
use Rattle.text.specs.TextLaws.{decimal_short, puts_length, puts_then}
use Rattle.text.specs.Text.{ascii}
use Rattle.printing.specs.Lines.{two_numbers}
use Rattle.printing.proofs.lines.put_two.Goals as goal

pub put_one-requires : goal.put_one-requires
put_one-requires c =
    let p = c.put-end.ensures in
    let q = c.put_decimal-end_x.ensures in
    omega (arith, p.end, q.end, puts_length p, puts_length q, decimal_short c.args.x)

pub returns : goal.returns
unfolding two_numbers ascii
returns c = puts_then c.put-end.ensures (puts_then c.put_decimal-end_x.ensures c.put_one.ensures)
