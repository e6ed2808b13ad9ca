-- `order::order_alike` meets its contract. Assumes nothing.
use mathlib.Core.Bool.{Bool, true, false, not}
use mathlib.Core.Path.{◌≡◌, sym, ap, subst, ◌∙◌}
use Prim.Native.Nat.{ℕ, ◌<◌}
use Rattle.std.specs.Ordering.{MatchOrdering, nat_cmp}
use Rattle.std.specs.Cmp.{ranks}
use Rattle.std.specs.declared.cmp.Ordering.{Ordering}
use Rattle.order.proofs.OrderLaws.{common_differ, common_first, common_second, common_both}
use Rattle.order.proofs.order_alike.Goals as goal

flipped : (s t : Bool) → s ≡ not t → (b : Bool) → s ≡ b → not b ≡ t
flipped s true e b h = sym (ap not h) ∙ ap not e
flipped s false e b h = sym (ap not h) ∙ ap not e

ranked : (x y : ℕ) (r : Ordering) → nat_cmp x y ≡ r → MatchOrdering r (x < y) (x ≡ y) (y < x)
ranked x y r e = subst (λ (s : Ordering). MatchOrdering s (x < y) (x ≡ y) (y < x)) e (ranks x y)

pub returns-then-ne : goal.returns-then-ne
returns-then-ne c = common_differ _ _ _ c.min-common.ensures (flipped _ _ c.ne.ensures true c.if-ne.true)

pub returns-in-Greater : goal.returns-in-Greater
returns-in-Greater c = common_first _ _ _ c.min-common.ensures (flipped _ _ c.ne.ensures false c.if-ne.false) (ranked _ _ Ordering.Greater (sym c.cmp.ensures ∙ c.in-Greater.is))

pub returns-in-Less : goal.returns-in-Less
returns-in-Less c = common_second _ _ _ c.min-common.ensures (flipped _ _ c.ne.ensures false c.if-ne.false) (ranked _ _ Ordering.Less (sym c.cmp.ensures ∙ c.in-Less.is))

pub returns-in-Equal : goal.returns-in-Equal
returns-in-Equal c = common_both _ _ _ c.min-common.ensures (flipped _ _ c.ne.ensures false c.if-ne.false) (ranked _ _ Ordering.Equal (sym c.cmp.ensures ∙ c.in-Equal.is))
