-- What a run leaves, from what its own contract says and what its answer is told as. Assumes nothing.
use mathlib.Core.Path.{subst}
use Prim.Native.Nat.{ℕ}
use mathlib.Core.List.{List}
use Rattle.rules.specs.Lent.{Left, Is}
use Rattle.threadmolar.specs.Runs.{Runs}

pub call_runs : {A : Type 0} (T : A → (r k k' : ℕ) → Type 0) {left : Left A} {a : A} {rs ls w : List ℕ} {r k k' : ℕ} → Is left a rs ls w → T a r k k' → Runs (T left.answer) left r rs ls w k k'
call_runs T {r = r} {k = k} {k' = k'} i t =
    record { told = subst (λ b. T b r k k') i.answer t; records = i.records; lengths = i.lengths; work = i.work }
