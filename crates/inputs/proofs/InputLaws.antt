-- The parties' inputs in the lent list: where they start and end, which one is next, and what is left once one is taken. Assumes nothing.
use mathlib.Core.Path.{◌≡◌, refl, sym, ap, ◌∙◌}
use mathlib.Core.Bool.{Bool, true, false, ◌&&◌}
use mathlib.Core.List.{List, [], ◌∷◌}
use Prim.Native.Nat.{ℕ, zero, suc, ◌+◌, ◌-◌, ◌≤◌, ◌<◌}
use native.Mathlib.Numerals.{add-one}
use native.Mathlib.Decide.{dec_lt}
use native.Mathlib.Omega.{arith}
use Rattle.std.specs.Prelude.{Some, None}
use Rattle.std.specs.List.{slice_get}
use lib.Dec.{eqb}
use lib.IntN.{ℤ}
use lib.ListN.{length, get_or, take, drop, set, length-set, get_or-eq_default}
use lib.Seq.{take-nil, drop-nil, drop-drop, get_or-set_same, get_or-set_other}
use borrow.Author.Tests.{eqb-true, eqb-false}
use Rattle.rules.specs.Books.{Books, opening}
use Rattle.rules.specs.Lent.{Lent, sum, inputs_of, counts_fit}
use Rattle.inputs.specs.Inputs.{Divided, InputsHold, head_of}

-- ---- sums of the first counts
sum_take_step : (cs : List ℕ) (k : ℕ) → k < length cs → sum (take (suc k) cs) ≡ sum (take k cs) + get_or cs k 0
unfolding sum
sum_take_step [] k h = absurd (omega arith)
sum_take_step (c ∷ cs) zero h = omega arith
sum_take_step (c ∷ cs) (suc k) h = omega (arith, sum_take_step cs k (omega arith))

pub sum_take_suc : (cs : List ℕ) (k : ℕ) → k < length cs → sum (take (k + 1) cs) ≡ sum (take k cs) + get_or cs k 0
sum_take_suc cs k h = rw add-one (sum_take_step cs k h)

pub sum_take_le : (cs : List ℕ) (k : ℕ) → sum (take k cs) ≤ sum cs
unfolding sum
sum_take_le [] k = rw take-nil (omega arith)
sum_take_le (c ∷ cs) zero = omega arith
sum_take_le (c ∷ cs) (suc k) = omega (arith, sum_take_le cs k)

pub sum_take_none : (cs : List ℕ) → sum (take 0 cs) ≡ 0
unfolding sum
sum_take_none cs = refl

-- `counts_fit` of what is lent
pub counts_fit_is : (n : ℕ) (L : Lent) → (eqb (length L.counts) n && eqb (sum L.counts) (length L.inputs)) ≡ counts_fit n L
unfolding counts_fit
counts_fit_is n L = refl

-- ---- the starts and the ends, of the first k parties
pub record Dividing (counts at₀ end₀ : List ℕ) (k s : ℕ) (at end : List ℕ) : Type 0 where
  pub at_length : length at ≡ length at₀
  pub end_length : length end ≡ length end₀
  pub passed : s ≡ sum (take k counts)
  pub starts : (P : ℕ) → P < k → get_or at P 0 ≡ sum (take P counts)
  pub ends : (P : ℕ) → P < k → get_or end P 0 ≡ sum (take P counts) + get_or counts P 0
  pub rest : (P : ℕ) → k ≤ P → (get_or at P 0 ≡ get_or at₀ P 0) × (get_or end P 0 ≡ get_or end₀ P 0)

module _ (counts at₀ end₀ : List ℕ) where
  pub divide_none : Dividing counts at₀ end₀ 0 0 at₀ end₀
  divide_none =
      record {
        at_length = refl;
        end_length = refl;
        passed = sym (sum_take_none counts);
        starts = λ P h. absurd (omega arith);
        ends = λ P h. absurd (omega arith);
        rest = λ P h. (refl, refl);
      }

  module _ (k s : ℕ) (at end : List ℕ) (h : k < length counts) (d : Dividing counts at₀ end₀ k s at end) where
    pub sum_next : s + get_or counts k 0 ≤ sum counts
    sum_next = omega (arith, d.passed, sum_take_suc counts k h, sum_take_le counts (k + 1))

    pub divide_more : length counts ≤ length at₀ → length counts ≤ length end₀
        → Dividing counts at₀ end₀ (k + 1) (s + get_or counts k 0) (set at k s) (set end k (s + get_or counts k 0))
    divide_more a e =
        record {
          at_length = length-set at k s ∙ d.at_length;
          end_length = length-set end k (s + get_or counts k 0) ∙ d.end_length;
          passed = ap (λ (x : ℕ). x + get_or counts k 0) d.passed ∙ sym (sum_take_suc counts k h);
          starts = λ P l. start P l (eqb P k) refl;
          ends = λ P l. finish P l (eqb P k) refl;
          rest = λ P l. (
            get_or-set_other at k P s 0 (omega arith) ∙ (d.rest P (omega arith)).0,
            get_or-set_other end k P (s + get_or counts k 0) 0 (omega arith) ∙ (d.rest P (omega arith)).1,
          );
        }
      where
        start : (P : ℕ) → P < k + 1 → (t : Bool) → eqb P k ≡ t → get_or (set at k s) P 0 ≡ sum (take P counts)
        start P l true q =
            let p : P ≡ k = eqb-true P k q in
            rw p (get_or-set_same at k s 0 (omega (arith, d.at_length)) ∙ d.passed)
        start P l false q =
            let p : P ≡ k → ⊥ = eqb-false P k q in
            get_or-set_other at k P s 0 p ∙ d.starts P (omega arith)

        finish : (P : ℕ) → P < k + 1 → (t : Bool) → eqb P k ≡ t → get_or (set end k (s + get_or counts k 0)) P 0 ≡ sum (take P counts) + get_or counts P 0
        finish P l true q =
            let p : P ≡ k = eqb-true P k q in
            rw p (get_or-set_same end k (s + get_or counts k 0) 0 (omega (arith, d.end_length)) ∙ ap (λ (x : ℕ). x + get_or counts k 0) d.passed)
        finish P l false q =
            let p : P ≡ k → ⊥ = eqb-false P k q in
            get_or-set_other end k P (s + get_or counts k 0) 0 p ∙ d.ends P (omega arith)

-- ---- the input that is next
pub next_is : (is : List ℤ) (i m : ℕ) → 0 < m → head_of (take m (drop i is)) ≡ slice_get is i
next_is is i zero h = absurd (omega arith)
next_is [] i (suc m) h = rw (drop-nil)
next_is (x ∷ is) zero (suc m) h = refl
next_is (x ∷ is) (suc i) (suc m) h = next_is is i (suc m) h

pub head_none : (xs : List ℤ) → head_of xs ≡ None → xs ≡ []
head_none [] h = refl
head_none (i ∷ is) h = absurd (let z : ◌≡◌ {A = ℕ} 0 1 = cc in omega arith)

pub head_some : (xs : List ℤ) (i : ℤ) → head_of xs ≡ Some i → xs ≡ i ∷ drop 1 xs
head_some [] i h = absurd (let z : ◌≡◌ {A = ℕ} 0 1 = cc in omega arith)
head_some (j ∷ is) i h = cc

-- ---- the books
pub inputs_start : (L : Lent) (at₀ end₀ at end : List ℕ) → ((P : ℕ) → get_or at₀ P 0 ≡ 0) → ((P : ℕ) → get_or end₀ P 0 ≡ 0) → Divided L.counts at₀ end₀ at end
    → (n : ℕ) → InputsHold n L.inputs at end (opening (inputs_of L))
unfolding inputs_of
inputs_start L at₀ end₀ at end za ze d n P h =
    elim (dec_lt P (length L.counts)) [
      | yes q ↦
          let z : get_or L.counts P 0 ≡ get_or end P 0 - get_or at P 0 = omega (arith, d.starts P q, d.ends P q) in
          rw (z, ← d.starts P q)
      | no q ↦
          let l : length L.counts ≤ P = omega arith in
          let c : get_or L.counts P 0 ≡ 0 = get_or-eq_default L.counts 0 {n = P} l in
          let z : get_or end P 0 - get_or at P 0 ≡ 0 = omega (arith, (d.rest P l).0, (d.rest P l).1, za P, ze P) in
          rw (c, z)
    ]

rest_is : (m : ℕ) (xs : List ℤ) (i : ℤ) (rest : List ℤ) → take m xs ≡ i ∷ rest → rest ≡ take (m - 1) (drop 1 xs)
rest_is zero xs i rest h = absurd (let z : ◌≡◌ {A = ℕ} 0 1 = cc in omega arith)
rest_is (suc m) [] i rest h = absurd (let z : ◌≡◌ {A = ℕ} 0 1 = cc in omega arith)
rest_is (suc m) (x ∷ xs) i rest h =
    let z : suc m - 1 ≡ m = omega arith in
    rw z (cc)

pub inputs_taken : (n : ℕ) (is : List ℤ) (at end : List ℕ) (b b' : Books) (P : ℕ) → P < n → n ≤ length at → InputsHold n is at end b
    → (i : ℤ) (rest : List ℤ) → (b P).inputs ≡ i ∷ rest → (b' P).inputs ≡ rest
    → ((Q : ℕ) → Q < n → (Q ≡ P → ⊥) → (b' Q).inputs ≡ (b Q).inputs) → InputsHold n is (set at P (get_or at P 0 + 1)) end b'
inputs_taken n is at end b b' P p l holds i rest e e' others Q q = go (eqb Q P) refl
  where
    go : (t : Bool) → eqb Q P ≡ t
        → (b' Q).inputs ≡ take (get_or end Q 0 - get_or (set at P (get_or at P 0 + 1)) Q 0) (drop (get_or (set at P (get_or at P 0 + 1)) Q 0) is)
    go true h =
        let same : Q ≡ P = eqb-true Q P h in
        let less : get_or end P 0 - (get_or at P 0 + 1) ≡ get_or end P 0 - get_or at P 0 - 1 = omega arith in
        rw (same, get_or-set_same at P (get_or at P 0 + 1) 0 (omega arith), less, ← drop-drop 1 (get_or at P 0) is)
        (e' ∙ rest_is (get_or end P 0 - get_or at P 0) (drop (get_or at P 0) is) i rest (sym (holds P p) ∙ e))
    go false h =
        let other : Q ≡ P → ⊥ = eqb-false Q P h in
        rw (get_or-set_other at P Q (get_or at P 0 + 1) 0 other) (others Q q other ∙ holds Q q)

pub inputs_same : (n : ℕ) (is : List ℤ) (at end : List ℕ) (b b' : Books) → InputsHold n is at end b
    → ((Q : ℕ) → Q < n → (b' Q).inputs ≡ (b Q).inputs) → InputsHold n is at end b'
inputs_same n is at end b b' holds same Q q = same Q q ∙ holds Q q
