-- `order::continuation` meets its contract. Assumes nothing.
use lib.ListN.{length}
use mathlib.Core.Path.{refl, sym, ◌∙◌}
use Rattle.order.specs.declared.Order.TheVariants.{FirstLonger, SecondLonger, Equal, Neither}
use Rattle.order.proofs.OrderLaws.{first_le, second_le, part_is}
use Rattle.order.proofs.continuation.Goals as goal

pub slice_bounds-result-count : goal.slice_bounds-result-count
slice_bounds-result-count c = first_le _ _ (sym c.order_of.ensures ∙ c.in-FirstLonger.is)

pub slice_bounds-result-start : goal.slice_bounds-result-start
slice_bounds-result-start c = first_le _ _ (sym c.order_of.ensures ∙ c.in-FirstLonger.is)

pub slice_bounds-result-count-in-SecondLonger : goal.slice_bounds-result-count-in-SecondLonger
slice_bounds-result-count-in-SecondLonger c = second_le _ _ (sym c.order_of.ensures ∙ c.in-SecondLonger.is)

pub slice_bounds-result-start-in-SecondLonger : goal.slice_bounds-result-start-in-SecondLonger
slice_bounds-result-start-in-SecondLonger c = second_le _ _ (sym c.order_of.ensures ∙ c.in-SecondLonger.is)

pub returns-in-FirstLonger : goal.returns-in-FirstLonger
returns-in-FirstLonger c = part_is _ _ FirstLonger (sym c.order_of.ensures ∙ c.in-FirstLonger.is) c.args.a (length c.args.b.now) refl refl

pub returns-in-SecondLonger : goal.returns-in-SecondLonger
returns-in-SecondLonger c = part_is _ _ SecondLonger (sym c.order_of.ensures ∙ c.in-SecondLonger.is) c.args.b (length c.args.a.now) refl refl

pub returns-in-Equal : goal.returns-in-Equal
returns-in-Equal c = part_is _ _ Equal (sym c.order_of.ensures ∙ c.in-Equal.is) c.args.b (length c.args.b.now) refl refl

pub returns-in-Neither : goal.returns-in-Neither
returns-in-Neither c = part_is _ _ Neither (sym c.order_of.ensures ∙ c.in-Neither.is) c.args.b (length c.args.b.now) refl refl
