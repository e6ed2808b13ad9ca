-- Each contract allows one answer. Assumes nothing.
use mathlib.Core.Path.{◌≡◌, sym, ap, ◌∙◌}
use Prim.Native.Nat.{ℕ}
use mathlib.Core.List.{List}
use native.Mathlib.Omega.{arith}
use lib.ListN.{length, drop, length-take, length-drop}
use Rattle.order.specs.Order.{order_of, continued}
use Rattle.rules.specs.Lent.{Left}
use Rattle.threadmolar.specs.Runs.{Told, Runs}
use Rattle.threadmolar.specs.Orders.{continued_in, Continues}
use Rattle.threadmolar.specs.OneAnswer.{OneAnswer}

-- as long as the continuation is
long : (xs ys : List ℕ) (r s l : ℕ) → Continues xs ys r s l → l ≡ length (continued xs ys)
long xs ys r s l c =
    let a = continued_in (order_of xs ys) xs ys in
    omega (arith, ap length c.bytes, length-take l (drop s a), length-drop s a, c.ends)

one_run : {A : Type 0} {left : Left A} {number : ℕ} {count_left : ℕ → ℕ} {k r r' k₁ k₂ : ℕ} {rs rs' ls ls' w w' : List ℕ}
    → Runs (Told number count_left) left r rs ls w k k₁ → Runs (Told number count_left) left r' rs' ls' w' k k₂ → (r ≡ r') × (rs ≡ rs') × (ls ≡ ls') × (w ≡ w') × (k₁ ≡ k₂)
one_run c d =
    (c.told.number_is ∙ sym d.told.number_is, c.records ∙ sym d.records, c.lengths ∙ sym d.lengths, c.work ∙ sym d.work, c.told.count_is ∙ sym d.told.count_is)

pub one_answer : OneAnswer
one_answer =
    record {
      check = λ a n k r r' n₁ n₂ k₁ k₂ c d. (c.number ∙ sym d.number, c.parties ∙ sym d.parties, c.nodes ∙ sym d.nodes);
      single = λ X k r r' k₁ k₂ rs rs' ls ls' w w' c d. one_run c d;
      joint = λ X k r r' k₁ k₂ rs rs' ls ls' w w' c d. one_run c d;
      walk = λ a k r r' k₁ k₂ f f₁ f₂ c d. (c.number ∙ sym d.number, c.next ∙ sym d.next, c.fields ∙ sym d.fields);
      order = λ xs ys r r' c d. c ∙ sym d;
      continuation = λ xs ys r r' s s' l l' c d.
          let e = long xs ys r s l c ∙ sym (long xs ys r' s' l' d) in
          (c.number ∙ sym d.number, omega (arith, c.ends, d.ends), e);
    }
