-- `threadmolar::ordering::threadmolar_order` meets its contract. Assumes nothing.
use mathlib.Core.Path.{ap, ◌∙◌}
use Rattle.threadmolar.specs.Orders.{order_number}
use Rattle.threadmolar.proofs.ordering.threadmolar_order.Goals as goal

pub returns : goal.returns
returns c = c.number_of.ensures ∙ ap order_number c.order_of.ensures
