-- `threadmolar::ordering::threadmolar_continuation` meets its contract. Assumes nothing.
use mathlib.Core.Path.{refl, sym, ◌∙◌}
use native.Mathlib.Omega.{arith}
use Rattle.order.proofs.OrderLaws.{first_le, second_le}
use Rattle.threadmolar.specs.Orders.{continued_in}
use Rattle.threadmolar.proofs.OrderLaws.{continues}
use Rattle.threadmolar.proofs.ordering.threadmolar_continuation.Goals as goal

pub overflow_sub-length : goal.overflow_sub-length
overflow_sub-length c = first_le _ _ (sym c.order_of-order.ensures ∙ c.in-FirstLonger.is)

pub overflow_sub-length-in-SecondLonger : goal.overflow_sub-length-in-SecondLonger
overflow_sub-length-in-SecondLonger c = second_le _ _ (sym c.order_of-order.ensures ∙ c.in-SecondLonger.is)

pub returns-in-FirstLonger : goal.returns-in-FirstLonger
unfolding continued_in
returns-in-FirstLonger c = let h = first_le _ _ (sym c.order_of-order.ensures ∙ c.in-FirstLonger.is) in continues _ _ _ _ c.order_of-order.ensures c.in-FirstLonger.is _ _ _ c.number_of-number.ensures (omega arith) refl

pub returns-in-SecondLonger : goal.returns-in-SecondLonger
unfolding continued_in
returns-in-SecondLonger c = let h = second_le _ _ (sym c.order_of-order.ensures ∙ c.in-SecondLonger.is) in continues _ _ _ _ c.order_of-order.ensures c.in-SecondLonger.is _ _ _ c.number_of-number.ensures (omega arith) refl

pub returns-in-Equal : goal.returns-in-Equal
unfolding continued_in
returns-in-Equal c = continues _ _ _ _ c.order_of-order.ensures c.in-Equal.is _ _ _ c.number_of-number.ensures (omega arith) refl

pub returns-in-Neither : goal.returns-in-Neither
unfolding continued_in
returns-in-Neither c = continues _ _ _ _ c.order_of-order.ensures c.in-Neither.is _ _ _ c.number_of-number.ensures (omega arith) refl
