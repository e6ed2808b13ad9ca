-- `listing::lines::put_order_word` meets its contract. Assumes nothing.
use Rattle.text.specs.Text.{ascii}
use Rattle.listing.specs.Lines.{order_word}
use Rattle.listing.proofs.lines.put_order_word.Goals as goal

pub returns-in-FirstLonger : goal.returns-in-FirstLonger
unfolding order_word ascii
returns-in-FirstLonger c = rw c.in-FirstLonger.is c.put.ensures

pub returns-in-SecondLonger : goal.returns-in-SecondLonger
unfolding order_word ascii
returns-in-SecondLonger c = rw c.in-SecondLonger.is c.put-in-SecondLonger.ensures

pub returns-in-Equal : goal.returns-in-Equal
unfolding order_word ascii
returns-in-Equal c = rw c.in-Equal.is c.put-in-Equal.ensures

pub returns-in-Neither : goal.returns-in-Neither
unfolding order_word ascii
returns-in-Neither c = rw c.in-Neither.is c.put-in-Neither.ensures
