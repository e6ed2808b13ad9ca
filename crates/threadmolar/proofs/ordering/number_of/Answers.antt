-- `threadmolar::ordering::number_of` meets its contract. Assumes nothing.
use Rattle.threadmolar.specs.Orders.{order_number}
use Rattle.threadmolar.proofs.ordering.number_of.Goals as goal

pub returns-in-FirstLonger : goal.returns-in-FirstLonger
unfolding order_number
returns-in-FirstLonger c = rw c.in-FirstLonger.is

pub returns-in-SecondLonger : goal.returns-in-SecondLonger
unfolding order_number
returns-in-SecondLonger c = rw c.in-SecondLonger.is

pub returns-in-Equal : goal.returns-in-Equal
unfolding order_number
returns-in-Equal c = rw c.in-Equal.is

pub returns-in-Neither : goal.returns-in-Neither
unfolding order_number
returns-in-Neither c = rw c.in-Neither.is
