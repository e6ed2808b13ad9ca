-- The lines put one after the other fit in what is lent, and what is written are those lines. Assumes nothing.
use Rattle.std.proofs.Common.{ℕ, ◌≤◌, List, OnOk, arith, length, sym, subst, length-take-le}
use Rattle.std.specs.Io.KnownBytes.{Appends}
use Rattle.text.specs.TextLaws.{puts_length, puts_then, puts_first}
use Rattle.listing.proofs.LongestLaws.{case_short, walk_short, order_short}
use Rattle.walks.proofs.PrintedLaws.{appended}
use Rattle.walks.proofs.show.Goals as goal

pub put_walk-end_a-requires : goal.put_walk-end_a-requires
put_walk-end_a-requires g c =
    let p = c.put_case-end_case.ensures in
    omega (arith, p.end, puts_length p, case_short c.args.number)

pub slice_bounds-write_all-end : goal.slice_bounds-write_all-end
slice_bounds-write_all-end g c =
    let p = c.put_case-end_case.ensures in
    let q = c.put_walk-end_a.ensures in
    omega (arith, p.end, q.end, puts_length p, puts_length q, case_short c.args.number, walk_short c.args.a.now)

pub slice_bounds-write_all-end-2 : goal.slice_bounds-write_all-end-2
slice_bounds-write_all-end-2 g c =
    let p = c.put_case-end_case.ensures in
    let q = c.put_walk-end_a.ensures in
    let within : c.put_walk-end_a.result ≤ length c.put_walk-end_a.new.out = omega (arith, p.end, q.end, puts_length p, puts_length q, case_short c.args.number, walk_short c.args.a.now) in
    sym (length-take-le _ _ within)

pub slice_bounds-write_all-end-3 : goal.slice_bounds-write_all-end-3
slice_bounds-write_all-end-3 g c =
    let q = c.put_walk-end_b.ensures in
    omega (arith, q.end, puts_length q, walk_short c.args.b.now)

pub slice_bounds-write_all-end-4 : goal.slice_bounds-write_all-end-4
slice_bounds-write_all-end-4 g c =
    let q = c.put_walk-end_b.ensures in
    let within : c.put_walk-end_b.result ≤ length c.put_walk-end_b.new.out = omega (arith, q.end, puts_length q, walk_short c.args.b.now) in
    sym (length-take-le _ _ within)

pub slice_bounds-write_all-end-5 : goal.slice_bounds-write_all-end-5
slice_bounds-write_all-end-5 g c =
    let q = c.put_order-end.ensures in
    omega (arith, q.end, puts_length q, order_short c.args.a.now c.args.b.now)

pub slice_bounds-write_all-end-6 : goal.slice_bounds-write_all-end-6
slice_bounds-write_all-end-6 g c =
    let q = c.put_order-end.ensures in
    let within : c.put_order-end.result ≤ length c.put_order-end.new.out = omega (arith, q.end, puts_length q, order_short c.args.a.now c.args.b.now) in
    sym (length-take-le _ _ within)

pub returns : goal.returns
returns g c =
    let p = c.put_case-end_case.ensures in
    let q = c.put_walk-end_a.ensures in
    let q2 = c.put_walk-end_b.ensures in
    let r = c.put_order-end.ensures in
    let within_a : c.put_walk-end_a.result ≤ length c.put_walk-end_a.new.out = omega (arith, p.end, q.end, puts_length p, puts_length q, case_short c.args.number, walk_short c.args.a.now) in
    let within_b : c.put_walk-end_b.result ≤ length c.put_walk-end_b.new.out = omega (arith, q2.end, puts_length q2, walk_short c.args.b.now) in
    let within : c.put_order-end.result ≤ length c.put_order-end.new.out = omega (arith, r.end, puts_length r, order_short c.args.a.now c.args.b.now) in
    appended
    _
    _
    _
    _
    _
    _
    _
    _
    c.write_all-3.result
    (subst (Appends (g.W.Write.contents c.args.writer.now) (g.W.Write.contents c.write_all.new.self)) (puts_first _ _ _ _ (puts_then p q) within_a) c.in_ok-write_all.ensures.bytes)
    (subst (Appends (g.W.Write.contents c.write_all.new.self) (g.W.Write.contents c.write_all-2.new.self)) (puts_first _ _ _ _ q2 within_b) c.in_ok-write_all-2.ensures.bytes)
    (subst (λ (s : List ℕ). OnOk c.write_all-3.result (Appends (g.W.Write.contents c.write_all-2.new.self) (g.W.Write.contents c.write_all-3.new.self) s)) (puts_first _ _ _ _ r within) c.write_all-3.ensures.bytes)
