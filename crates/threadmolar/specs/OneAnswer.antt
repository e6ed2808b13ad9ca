-- "Two answers allowed by one contract are proved equal": of each of the six calls, the number and every place and byte that was lent to be written.
use Rattle.std.specs.Prelude.{◌≡◌, ℕ, List}
use Rattle.program.specs.Answer.{CheckAnswer}
use Rattle.walk.specs.Walk.{StepAnswer}
use Rattle.order.specs.Order.{order_of}
use Rattle.rules.specs.Lent.{Left}
use Rattle.rules.specs.Calls.{SingleAnswer, JointAnswer}
use Rattle.threadmolar.specs.Checks.{Checks}
use Rattle.threadmolar.specs.Runs.{SingleRuns, JointRuns}
use Rattle.threadmolar.specs.Walks.{Walks}
use Rattle.threadmolar.specs.Orders.{order_number, Continues}
use Rattle.threadmolar.specs.declared.walking.Fields.{Fields}

pub record OneAnswer : Type 0 where
  pub check : (a : CheckAnswer) (n k r r' n₁ n₂ k₁ k₂ : ℕ) → Checks a r n k n₁ k₁ → Checks a r' n k n₂ k₂ → (r ≡ r') × (n₁ ≡ n₂) × (k₁ ≡ k₂)
  pub single : (X : Left SingleAnswer) (k r r' k₁ k₂ : ℕ) (rs rs' ls ls' w w' : List ℕ) → SingleRuns X r rs ls w k k₁ → SingleRuns X r' rs' ls' w' k k₂
      → (r ≡ r') × (rs ≡ rs') × (ls ≡ ls') × (w ≡ w') × (k₁ ≡ k₂)
  pub joint : (X : Left JointAnswer) (k r r' k₁ k₂ : ℕ) (rs rs' ls ls' w w' : List ℕ) → JointRuns X r rs ls w k k₁ → JointRuns X r' rs' ls' w' k k₂
      → (r ≡ r') × (rs ≡ rs') × (ls ≡ ls') × (w ≡ w') × (k₁ ≡ k₂)
  pub walk : (a : StepAnswer) (k r r' k₁ k₂ : ℕ) (f f₁ f₂ : Fields) → Walks a r k f k₁ f₁ → Walks a r' k f k₂ f₂ → (r ≡ r') × (k₁ ≡ k₂) × (f₁ ≡ f₂)
  pub order : (xs ys : List ℕ) (r r' : ℕ) → r ≡ order_number (order_of xs ys) → r' ≡ order_number (order_of xs ys) → r ≡ r'
  pub continuation : (xs ys : List ℕ) (r r' s s' l l' : ℕ) → Continues xs ys r s l → Continues xs ys r' s' l' → (r ≡ r') × (s ≡ s') × (l ≡ l')
