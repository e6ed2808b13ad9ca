-- `printing::lines::put_party` meets its contract. Assumes nothing.
use native.Mathlib.Omega.{arith}
use Rattle.text.specs.Text.{ascii}
use Rattle.text.specs.TextLaws.{decimal_short, puts_length, puts_then, spaced_short}
use Rattle.printing.specs.Lines.{party_line}
use Rattle.printing.proofs.lines.put_party.Goals as goal

pub put_spaced-end_bytes-requires : goal.put_spaced-end_bytes-requires
put_spaced-end_bytes-requires c =
    let p = c.put_decimal-end.ensures in
    omega (arith, p.end, puts_length p, decimal_short c.args.party)

pub put-requires : goal.put-requires
put-requires c =
    let p = c.put_decimal-end.ensures in
    let q = c.put_spaced-end_bytes.ensures in
    omega (arith, p.end, q.end, puts_length p, puts_length q, decimal_short c.args.party, spaced_short c.args.bytes.now)

pub returns : goal.returns
unfolding party_line ascii
returns c = puts_then c.put_decimal-end.ensures (puts_then c.put_spaced-end_bytes.ensures c.put.ensures)
