-- Where the continuation of two records starts, and how long it is. Assumes nothing.
use mathlib.Core.Path.{◌≡◌, sym, ap, ◌∙◌}
use Prim.Native.Nat.{ℕ, ◌+◌}
use mathlib.Core.List.{List}
use native.Mathlib.Omega.{arith}
use lib.ListN.{length, drop, length-drop}
use lib.Seq.{take_all}
use Rattle.order.specs.Order.{order_of, beyond}
use Rattle.order.specs.declared.Order.{Order}
use Rattle.order.proofs.OrderLaws.{continued_is}
use Rattle.threadmolar.specs.Orders.{order_number, continued_in, Continues}

-- a part of the record that the order o names, to its end
pub continues : (xs ys : List ℕ) (a o : Order) → a ≡ order_of xs ys → a ≡ o → (r start len : ℕ) → r ≡ order_number a
    → start + len ≡ length (continued_in o xs ys) → drop start (continued_in o xs ys) ≡ beyond o xs ys → Continues xs ys r start len
continues xs ys a o f e r start len n s b =
    let z : order_of xs ys ≡ o = sym f ∙ e in
    let l = continued_in o xs ys in
    record {
      number = n ∙ ap order_number f;
      bytes = rw z (take_all len (drop start l) (omega (arith, length-drop start l)) ∙ b ∙ continued_is xs ys o z);
      ends = rw z s;
    }
