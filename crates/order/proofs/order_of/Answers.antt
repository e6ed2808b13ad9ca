-- `order::order_of` meets its contract. Assumes nothing.
use Rattle.order.proofs.OrderLaws.{neither_has_one, first_has_one, second_has_one, others_first}
use Rattle.order.proofs.order_of.Goals as goal

pub returns-in-None-None : goal.returns-in-None-None
returns-in-None-None c = let s = c.in-None-None in neither_has_one _ _ s.ensures.value s.ensures'.value

pub returns-in-None-Some : goal.returns-in-None-Some
returns-in-None-Some c = let s = c.in-None-Some in second_has_one _ _ _ s.ensures.value s.ensures'.value

pub returns-in-Some-None : goal.returns-in-Some-None
returns-in-Some-None c = let s = c.in-Some-None in first_has_one _ _ _ s.ensures.value s.ensures'.value

pub returns-in-Some-Some : goal.returns-in-Some-Some
returns-in-Some-Some c = let s = c.in-Some-Some in others_first _ _ _ _ s.ensures.value s.ensures'.value c.if-x-y.true
