-- Turns put to the account of parties: a step of one's own to each member that takes it, a joint step to one of its members, the leader. So what the sites
-- have behind them, each at a time of its own, is a sum over parties; and when all have all behind them it is the number of turns. Assumes nothing.
use Prim.Native.Nat.{ℕ, zero, suc, ◌+◌, ◌<◌, ◌≤◌}
use mathlib.Core.Path.{◌≡◌, refl, sym, ap, ◌∙◌}
use mathlib.Core.Bool.{Bool, true, false, not, ◌&&◌, ◌||◌, cond, false≢true}
use mathlib.Core.List.{List}
use native.Mathlib.Nat.{le_refl, not-suc-le-zero}
use native.Mathlib.Omega.{arith}
use native.Mathlib.Decide.{ℕ_discrete, dec_le}
use borrow.Author.Tests.{eqb-true, eq-eqb, ne_eqb}
use lib.Dec.{eqb}
use lib.IntN.{ℤ}
use Rattle.rules.specs.Single.{Setting, Single, after}
use Rattle.demands.specs.Rounds.{active, meets_at, sum_below, how_many, turns_for, turns_of}

-- ---- sums

pub sum_same : (n : ℕ) (f g : ℕ → ℕ) → ((X : ℕ) → X < n → f X ≡ g X) → sum_below n f ≡ sum_below n g
unfolding sum_below
sum_same zero f g h = refl
sum_same (suc n) f g h = rw (h n (le_refl (suc n)), sum_same n f g (λ X x. h X (omega arith)))

sum_add : (n : ℕ) (f g : ℕ → ℕ) → sum_below n (λ X. f X + g X) ≡ sum_below n f + sum_below n g
unfolding sum_below
sum_add zero f g = refl
sum_add (suc n) f g = omega (arith, sum_add n f g)

pub sum_none : (n : ℕ) → sum_below n (λ X. 0) ≡ 0
unfolding sum_below
sum_none zero = refl
sum_none (suc n) = omega (arith, sum_none n)

-- by rows as by columns
sum_swap : (n k : ℕ) (f : ℕ → ℕ → ℕ) → sum_below n (λ X. sum_below k (λ t. f X t)) ≡ sum_below k (λ t. sum_below n (λ X. f X t))
unfolding sum_below
sum_swap zero k f = sym (sum_none k)
sum_swap (suc n) k f = ap (λ (r : ℕ). sum_below k (λ t. f n t) + r) (sum_swap n k f) ∙ sym (sum_add k (λ t. f n t) (λ t. sum_below n (λ X. f X t)))

-- one number passes the test of being that number
sum_one : (n Q : ℕ) → Q < n → how_many n (λ X. eqb X Q) ≡ 1
unfolding sum_below
sum_one zero Q q = absurd (not-suc-le-zero q)
sum_one (suc n) Q q = go (ℕ_discrete n Q) (sum_one n Q)
  where
    others : (k : ℕ) → k ≤ Q → how_many k (λ X. eqb X Q) ≡ 0
    others zero h = refl
    others (suc k) h = rw (ne_eqb k Q (λ e. omega arith)) (omega (arith, others k (omega arith)))

    go : Dec (n ≡ Q) → (Q < n → how_many n (λ X. eqb X Q) ≡ 1) → cond (eqb n Q) 1 0 + how_many n (λ X. eqb X Q) ≡ 1
    go (yes e) ih = rw (eq-eqb n Q e) (omega (arith, others n (omega arith)))
    go (no e) ih = rw (ne_eqb n Q e) (omega (arith, ih (omega arith)))

pub how_many_one : (n : ℕ) (f : ℕ → Bool) (Q : ℕ) → Q < n → ((X : ℕ) → X < n → f X ≡ eqb X Q) → how_many n f ≡ 1
how_many_one n f Q q h = sum_same n _ _ (λ X x. ap (λ (t : Bool). cond t 1 0) (h X x)) ∙ sum_one n Q q

-- ---- accounts

-- what passes a test that n fails is not n
pub lower : (f : ℕ → Bool) (Q n : ℕ) → Q < suc n → f Q ≡ true → f n ≡ false → Q < n
lower f Q n h e k = go (ℕ_discrete Q n)
  where
    go : Dec (Q ≡ n) → Q < n
    go (yes p) = absurd (false≢true (sym k ∙ ap f (sym p) ∙ e))
    go (no p) = omega arith

-- the highest number below n that passes a test
unfoldable pub leader : ℕ → (ℕ → Bool) → ℕ
leader zero f = 0
leader (suc n) f = cond (f n) n (leader n f)

leader_is : (n : ℕ) (f : ℕ → Bool) (Q : ℕ) → Q < n → f Q ≡ true → (leader n f < n) × (f (leader n f) ≡ true)
unfolding leader
leader_is zero f Q q e = absurd (not-suc-le-zero q)
leader_is (suc n) f Q q e = go (f n) refl (leader_is n f Q)
  where
    go : (t : Bool) → f n ≡ t → (Q < n → f Q ≡ true → (leader n f < n) × (f (leader n f) ≡ true)) → (cond t n (leader n f) < suc n) × (f (cond t n (leader n f)) ≡ true)
    go true k ih = (le_refl (suc n), k)
    go false k ih = let l = ih (lower f Q n q e k) e in (omega (arith, l.0), l.1)

-- a step is put to the account of X
unfoldable pub charged : Setting → ℕ → Single → Bool
charged S X s = active X s && (not (meets_at S s) || eqb X (leader S.program.parties (λ Y. active Y s)))

module _ (S : Setting) (inputs : ℕ → List ℤ) where
  -- the steps before the time T that are put to the account of X; and those of all, at times of their own
  unfoldable pub tally : ℕ → ℕ → ℕ
  tally X T = how_many T (λ t. charged S X (after S inputs t))

  unfoldable pub total : (ℕ → ℕ) → ℕ
  total time = sum_below S.program.parties (λ X. tally X (time X))

  idle_free : (X : ℕ) (s : Single) → active X s ≡ false → charged S X s ≡ false
  unfolding charged
  idle_free X s a = rw a

  -- over times at which X takes no part nothing is added
  pub tally_idle : (X t w : ℕ) → t ≤ w → ((u : ℕ) → t ≤ u → u < w → active X (after S inputs u) ≡ false) → tally X w ≡ tally X t
  unfolding tally sum_below
  tally_idle X t zero h f = let e : t ≡ 0 = omega arith in rw e
  tally_idle X t (suc w) h f = go (dec_le t w) (tally_idle X t w)
    where
      go : Dec (t ≤ w) → (t ≤ w → ((u : ℕ) → t ≤ u → u < w → active X (after S inputs u) ≡ false) → tally X w ≡ tally X t)
          → cond (charged S X (after S inputs w)) 1 0 + tally X w ≡ tally X t
      go (yes k) ih = rw (idle_free X (after S inputs w) (f w k (le_refl (suc w)))) (omega (arith, ih k (λ u a b. f u a (omega arith))))
      go (no k) ih = let e : t ≡ suc w = omega arith in rw e

  -- the sites of M pass the time t, the others stay
  pub total_moved : (old new : ℕ → ℕ) (t : ℕ) (M : ℕ → Bool)
      → ((X : ℕ) → X < S.program.parties → tally X (new X) ≡ cond (M X && charged S X (after S inputs t)) 1 0 + tally X (old X))
      → how_many S.program.parties (λ X. M X && charged S X (after S inputs t)) ≡ 1
      → total new ≡ 1 + total old
  unfolding total
  total_moved old new t M h e =
      sum_same _ _ _ h ∙ sum_add S.program.parties (λ X. cond (M X && charged S X (after S inputs t)) 1 0) (λ X. tally X (old X)) ∙ rw e

  pub total_none : total (λ X. 0) ≡ 0
  unfolding total tally sum_below
  total_none = sum_none S.program.parties

  -- a step of one's own is put to each member's account
  pub charged_as : (X t : ℕ) → meets_at S (after S inputs t) ≡ false → charged S X (after S inputs t) ≡ active X (after S inputs t)
  unfolding charged
  charged_as X t m = rw m (go (active X (after S inputs t)))
    where
      go : (r : Bool) → (r && true) ≡ r
      go true = refl
      go false = refl

  -- a joint step is put to one member's account
  pub charged_once : (t Q : ℕ) → Q < S.program.parties → active Q (after S inputs t) ≡ true → meets_at S (after S inputs t) ≡ true
      → how_many S.program.parties (λ X. charged S X (after S inputs t)) ≡ 1
  unfolding charged
  charged_once t Q q a m = how_many_one n _ L l.0 at_leader
    where
      n : ℕ
      n = S.program.parties

      L : ℕ
      L = leader n (λ Y. active Y (after S inputs t))

      l : (L < n) × (active L (after S inputs t) ≡ true)
      l = leader_is n (λ Y. active Y (after S inputs t)) Q q a

      at_leader : (X : ℕ) → X < n → (active X (after S inputs t) && (not (meets_at S (after S inputs t)) || eqb X L)) ≡ eqb X L
      at_leader X x = rw m (go (eqb X L) refl)
        where
          go : (r : Bool) → eqb X L ≡ r → (active X (after S inputs t) && r) ≡ r
          go true e = rw (eqb-true X L e, l.1)
          go false e = either (active X (after S inputs t))
            where
              either : (r : Bool) → (r && false) ≡ false
              either true = refl
              either false = refl

  -- when all have K steps behind them, the total is the number of turns that these take
  pub total_all : (K : ℕ) → ((t : ℕ) → t < K → meets_at S (after S inputs t) ≡ true → (Q : ℕ) × (Q < S.program.parties) × (active Q (after S inputs t) ≡ true))
      → total (λ X. K) ≡ turns_of S inputs K
  unfolding total tally turns_of
  total_all K peopled = sum_swap S.program.parties K (λ X t. cond (charged S X (after S inputs t)) 1 0) ∙ sum_same K _ _ at_time
    where
      at_step : (t : ℕ) → t < K → (m : Bool) → meets_at S (after S inputs t) ≡ m
          → how_many S.program.parties (λ X. charged S X (after S inputs t)) ≡ cond m 1 (how_many S.program.parties (λ X. active X (after S inputs t)))
      at_step t h true m = let (Q, q, a) = peopled t h m in charged_once t Q q a m
      at_step t h false m = sum_same _ _ _ (λ X x. ap (λ (r : Bool). cond r 1 0) (charged_as X t m))

      at_time : (t : ℕ) → t < K → how_many S.program.parties (λ X. charged S X (after S inputs t)) ≡ turns_for S (after S inputs t)
      at_time t h = unfold turns_for in at_step t h (meets_at S (after S inputs t)) refl
