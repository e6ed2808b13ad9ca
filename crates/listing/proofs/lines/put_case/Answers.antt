-- `listing::lines::put_case` meets its contract. Assumes nothing.
use native.Mathlib.Omega.{arith}
use Rattle.text.specs.Text.{ascii}
use Rattle.text.specs.TextLaws.{decimal_short, puts_length, puts_then}
use Rattle.listing.specs.Lines.{case_line}
use Rattle.listing.proofs.lines.put_case.Goals as goal

pub put-requires : goal.put-requires
put-requires c = let p = c.put-end_word.ensures in
    let q = c.put_decimal-end.ensures in
    omega (arith, p.end, q.end, puts_length p, puts_length q, decimal_short c.args.number)

pub returns : goal.returns
unfolding case_line ascii
returns c = puts_then c.put-end_word.ensures (puts_then c.put_decimal-end.ensures c.put.ensures)
