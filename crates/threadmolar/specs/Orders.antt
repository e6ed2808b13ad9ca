-- What the comparison of two records answers, and where in them the continuation is.
use Rattle.std.specs.Prelude.{◌≡◌, ℕ, ◌+◌, List, length, take, drop}
use Rattle.order.specs.Order.{order_of, continued}
use Rattle.order.specs.declared.Order.{Order}
use Rattle.order.specs.declared.Order.TheVariants.{FirstLonger, SecondLonger, Equal, Neither}
use Rattle.threadmolar.specs.Answers.{FIRST_LONGER, SECOND_LONGER, EQUAL, NEITHER}

-- "Which case holds is an answer by itself": its number
unfoldable pub order_number : Order → ℕ
order_number FirstLonger = FIRST_LONGER
order_number SecondLonger = SECOND_LONGER
order_number Equal = EQUAL
order_number Neither = NEITHER

-- the record whose part the continuation is: "empty if they are equal (the second one's end), and empty at that same end if neither begins the other"
unfoldable pub continued_in : Order → List ℕ → List ℕ → List ℕ
continued_in FirstLonger xs ys = xs
continued_in SecondLonger xs ys = ys
continued_in Equal xs ys = ys
continued_in Neither xs ys = ys

-- the number, and "what the longer has beyond the shorter": so many bytes of that record from `start` on, which are its last
pub record Continues (xs ys : List ℕ) (r start len : ℕ) : Type 0 where
  pub number : r ≡ order_number (order_of xs ys)
  pub bytes : take len (drop start (continued_in (order_of xs ys) xs ys)) ≡ continued xs ys
  pub ends : start + len ≡ length (continued_in (order_of xs ys) xs ys)
