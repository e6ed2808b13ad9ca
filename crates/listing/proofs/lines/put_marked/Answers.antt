-- `listing::lines::put_marked` meets its contract. Assumes nothing.
use native.Mathlib.Omega.{arith}
use Rattle.text.specs.Text.{ascii}
use Rattle.text.specs.TextLaws.{decimal_short, puts_length, puts_then}
use Rattle.listing.specs.Lines.{marked}
use Rattle.listing.proofs.lines.put_marked.Goals as goal

pub put-before_y-requires : goal.put-before_y-requires
put-before_y-requires c = let p = c.put-before_x.ensures in
    let q = c.put_decimal-end_x.ensures in
    omega (arith, p.end, q.end, puts_length p, puts_length q, decimal_short c.args.x)

pub put_decimal-requires : goal.put_decimal-requires
put_decimal-requires c = let p = c.put-before_x.ensures in
    let q = c.put_decimal-end_x.ensures in
    let m = c.put-before_y.ensures in
    omega (arith, p.end, q.end, m.end, puts_length p, puts_length q, puts_length m, decimal_short c.args.x)

pub returns : goal.returns
unfolding marked ascii
returns c = puts_then c.put-before_x.ensures (puts_then c.put_decimal-end_x.ensures (puts_then c.put-before_y.ensures c.put_decimal.ensures))
