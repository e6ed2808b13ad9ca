-- What a `match` on a number tells: a fact of each of some numbers is a fact of every number among them. Assumes nothing.
use Rattle.std.specs.Prelude.{◌≡◌, List, [], ◌∷◌, ℕ, zero, suc, ◌+◌, ◌≤◌, ◌<◌}
use Rattle.std.proofs.Common.{subst, arith}
use Rattle.std.proofs.Math.Decide.{ℕ_discrete}

-- P holds of the n numbers from lo on
abbrev pub Each : (ℕ → Type 0) → ℕ → ℕ → Type 0
Each P lo zero = Unit {0}
Each P lo (suc n) = P lo × Each P (suc lo) n

pub among : (P : ℕ → Type 0) (lo n k : ℕ) → Each P lo n → lo ≤ k → k < lo + n → P k
among P lo zero k a h l = absurd (omega arith)
among P lo (suc n) k a h l = go (ℕ_discrete lo k) (λ d. among P (suc lo) n k a.1 (omega arith) (omega arith))
  where
    go : Dec (lo ≡ k) → (¬ (lo ≡ k) → P k) → P k
    go (yes e) f = subst P e a.0
    go (no d) f = f d

-- n more than m, as `suc` counts
abbrev pub past : ℕ → ℕ → ℕ
past zero m = m
past (suc n) m = suc (past n m)

-- P holds of the n numbers from 0 on
abbrev pub First : (ℕ → Type 0) → ℕ → Type 0
First P zero = Unit {0}
First P (suc n) = P 0 × First (λ j. P (suc j)) n

-- what holds of the first n numbers and of all that are past them holds of every number
pub every : (P : ℕ → Type 0) (n : ℕ) → First P n → ((m : ℕ) → P (past n m)) → (k : ℕ) → P k
every P zero a f k = f k
every P (suc n) a f zero = a.0
every P (suc n) a f (suc k) = every (λ j. P (suc j)) n a.1 f k

-- k is none of some numbers
abbrev pub NoneOf : List ℕ → ℕ → Type 0
NoneOf [] k = Unit {0}
NoneOf (j ∷ js) k = NoneOf js k × (k ≡ j → ⊥)

pub above : (n : ℕ) {k : ℕ} → n ≤ k → (k ≡ n → ⊥) → suc n ≤ k
above n {k} h d = omega arith

pub below : (n : ℕ) {k : ℕ} → k < suc n → (k ≡ n → ⊥) → k < n
below n {k} h d = omega arith
