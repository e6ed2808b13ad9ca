-- `listing::lines::put_order` meets its contract. Assumes nothing.
use native.Mathlib.Omega.{arith}
use Rattle.order.specs.Order.{continued}
use Rattle.text.specs.Text.{ascii}
use Rattle.text.specs.TextLaws.{puts_length, puts_then, spaced_short}
use Rattle.listing.specs.Lines.{order_line}
use Rattle.listing.proofs.LineLaws.{word_short, continued_short}
use Rattle.listing.proofs.lines.put_order.Goals as goal

pub put_spaced-end-requires : goal.put_spaced-end-requires
put_spaced-end-requires c = let p = c.put_order_word-end_word.ensures in
    rw c.continuation.ensures.bytes
    (omega (arith, p.end, puts_length p, word_short c.order_of.result, continued_short c.args.a.now c.args.b.now))

pub put-requires : goal.put-requires
put-requires c = let p = c.put_order_word-end_word.ensures in
    let q = rw c.continuation.ensures.bytes at c.put_spaced-end.ensures in
    omega (arith, p.end, q.end, puts_length p, puts_length q, word_short c.order_of.result, spaced_short (continued c.args.a.now c.args.b.now), continued_short c.args.a.now c.args.b.now)

pub returns : goal.returns
unfolding order_line ascii
returns c = let p = rw c.order_of.ensures at c.put_order_word-end_word.ensures in
    let q = rw c.continuation.ensures.bytes at c.put_spaced-end.ensures in
    puts_then p (puts_then q c.put.ensures)
