-- How long the parts of the lines are, and bytes after a space. Assumes nothing.
use Prim.Native.Nat.{ℕ, ◌+◌, ◌≤◌}
use mathlib.Core.List.{List}
use native.Mathlib.Omega.{arith}
use lib.ListN.{length, length-append, length-drop}
use Rattle.order.specs.Order.{beyond, order_of, continued}
use Rattle.order.specs.declared.Order.{Order}
use Rattle.order.specs.declared.Order.TheVariants.{FirstLonger, SecondLonger, Equal, Neither}
use Rattle.text.specs.Text.{ascii}
use Rattle.text.specs.TextLaws.{decimal_short}
use Rattle.listing.specs.Lines.{marked, order_word}

pub marked_short : (mark : List ℕ) (x y : ℕ) → length (marked mark x y) ≤ length mark + 41
unfolding marked ascii
marked_short mark x y = simp length-append (omega (arith, decimal_short x, decimal_short y))

pub word_short : (o : Order) → length (order_word o) ≤ 13
unfolding order_word ascii
word_short FirstLonger = omega arith
word_short SecondLonger = omega arith
word_short Equal = omega arith
word_short Neither = omega arith

-- what one record has beyond the other is no more than both have
pub continued_short : (xs ys : List ℕ) → length (continued xs ys) ≤ length xs + length ys
unfolding continued
continued_short xs ys = go (order_of xs ys)
  where
    go : (o : Order) → length (beyond o xs ys) ≤ length xs + length ys
    go FirstLonger = rw length-drop (omega arith)
    go SecondLonger = rw length-drop (omega arith)
    go Equal = rw length-drop (omega arith)
    go Neither = rw length-drop (omega arith)
