-- Laws of party sets: all that a proof about them uses. Assumes nothing.
use Rattle.std.specs.Prelude.{◌≡◌, refl, Bool, true, false, cond, not, ◌&&◌, ◌||◌, ℕ, zero, suc, ◌+◌, ◌-◌, ◌*◌, ◌/◌, ◌%◌, ◌^◌, ◌≤◌, ◌<◌, min, max, eqb}
use Rattle.std.proofs.Common.{sym, ap, ◌∙◌, add-zero, mul_comm, zero-lt-suc, pow-suc, not-suc-le-zero, mul-div_cancel, div-one, arith, eq-eqb, ne_eqb, eqb-true, lt-ltb, ltb-true, pow_pos, pow_mono, lit<}
use Rattle.std.proofs.Math.Bool.{and-true, and-false}
use Rattle.std.proofs.lemmas.Bool.{false≢true, eqb-false}
use Rattle.std.proofs.Math.Nat.{mul-mod_left, div-div-eq-div-mul, div-eq_of_lt}
use Rattle.std.proofs.Math.Decide.{dec_lt}
use Rattle.std.proofs.Math.Arith.{digits_div, digits_mod, bin_ind, dbl_pred}
use Rattle.std.specs.Int.Bits.{bit_and, bit_or, and_step, or_step, and_self}
use Rattle.std.proofs.lemmas.Nat.{and_shr, or_shr, and_le_r}
use Rattle.std.proofs.Math.Dec.{eqb-suc-suc, eqb-zero-suc, eqb-suc-zero}
use Rattle.limits.specs.Limits.{max_parties}
use Rattle.parties.specs.Sets.{bit, member, meet, join, is_empty, same_set, none, only, all, within, count_from, count, lowest_from, lowest, rest}
use Rattle.parties.specs.declared.sets.PartySet.{PartySet}

-- ---- one bit

bit_zero : (n : ℕ) → bit 0 n ≡ n % 2
bit_zero n = rw (div-one n)

bit_suc : (i n : ℕ) → bit (suc i) n ≡ bit i (n / 2)
bit_suc i n = rw (pow-suc 2 i, mul_comm (2 ^ i) 2, ← div-div-eq-div-mul n 2 (2 ^ i))

bit_lt : (i n : ℕ) → bit i n < 2
bit_lt i n = omega arith

-- the digits of twice a number
twice_last : (x : ℕ) → bit 0 (x * 2) ≡ 0
twice_last x = bit_zero (x * 2) ∙ mul-mod_left x 2

twice_suc : (i x : ℕ) → bit (suc i) (x * 2) ≡ bit i x
twice_suc i x = bit_suc i (x * 2) ∙ rw (mul-div_cancel x (zero-lt-suc 1))

one_of_two : (f : ℕ → ℕ → ℕ) (g : Bool → Bool → Bool) → eqb (f 0 0) 1 ≡ g false false → eqb (f 0 1) 1 ≡ g false true → eqb (f 1 0) 1 ≡ g true false → eqb (f 1 1) 1 ≡ g true true
    → (a b : ℕ) → a < 2 → b < 2 → eqb (f a b) 1 ≡ g (eqb a 1) (eqb b 1)
one_of_two f g p q r s zero zero h k = p
one_of_two f g p q r s zero (suc zero) h k = q
one_of_two f g p q r s (suc zero) zero h k = r
one_of_two f g p q r s (suc zero) (suc zero) h k = s
one_of_two f g p q r s (suc (suc a)) b h k = absurd (omega arith)
one_of_two f g p q r s zero (suc (suc b)) h k = absurd (omega arith)
one_of_two f g p q r s (suc zero) (suc (suc b)) h k = absurd (omega arith)

-- ---- members

pub member_meet : (i : ℕ) (s t : PartySet) → member i (meet s t) ≡ member i s && member i t
unfolding member meet
member_meet i s t =
    let e : bit i (bit_and s.bits t.bits) ≡ min (bit i s.bits) (bit i t.bits) = ap (λ (n : ℕ). n % 2) (and_shr s.bits t.bits i ∙ and_step (s.bits / 2 ^ i) (t.bits / 2 ^ i)) ∙ omega arith in
    rw e (one_of_two (λ (a b : ℕ). min a b) (λ (a b : Bool). a && b) refl refl refl refl (bit i s.bits) (bit i t.bits) (bit_lt i s.bits) (bit_lt i t.bits))

pub member_join : (i : ℕ) (s t : PartySet) → member i (join s t) ≡ member i s || member i t
unfolding member join
member_join i s t =
    let e : bit i (bit_or s.bits t.bits) ≡ max (bit i s.bits) (bit i t.bits) = ap (λ (n : ℕ). n % 2) (or_shr s.bits t.bits i ∙ or_step (s.bits / 2 ^ i) (t.bits / 2 ^ i)) ∙ omega arith in
    rw e (one_of_two (λ (a b : ℕ). max a b) (λ (a b : Bool). a || b) refl refl refl refl (bit i s.bits) (bit i t.bits) (bit_lt i s.bits) (bit_lt i t.bits))

bit_none : (i : ℕ) → bit i 0 ≡ 0
bit_none zero = refl
bit_none (suc i) = bit_suc i 0 ∙ bit_none i

pub member_none : (i : ℕ) → member i none ≡ false
unfolding member
member_none i = rw (bit_none i)

bit_only : (i a : ℕ) → eqb (bit i (2 ^ a)) 1 ≡ eqb i a
bit_only zero zero = refl
bit_only zero (suc a) = rw (pow-suc 2 a, twice_last (2 ^ a)) (sym (eqb-zero-suc a))
bit_only (suc i) zero = rw (bit_suc i 1, bit_none i) (sym (eqb-suc-zero i))
bit_only (suc i) (suc a) = rw (pow-suc 2 a, twice_suc i (2 ^ a)) (bit_only i a ∙ sym (eqb-suc-suc i a))

pub member_only : (i a : ℕ) → member i (only a) ≡ eqb i a
unfolding member only
member_only i a = bit_only i a

bit_all : (i n : ℕ) → i < n → bit i (2 ^ n - 1) ≡ 1
bit_all i zero h = absurd (not-suc-le-zero h)
bit_all zero (suc n) h = rw (bit_zero, pow-suc 2 n, dbl_pred (pow_pos n), digits_mod (2 ^ n - 1) {m = 2} {r = 1} (lit< tt))
bit_all (suc i) (suc n) h = rw (bit_suc i (2 ^ suc n - 1), pow-suc 2 n, dbl_pred (pow_pos n), digits_div (2 ^ n - 1) {m = 2} {r = 1} (lit< tt)) (bit_all i n (omega arith))

pub member_all : (i n : ℕ) → i < n → member i (all n) ≡ true
unfolding member all
member_all i n h = rw (bit_all i n h)

-- a set of parties below n has no other
pub bit_high : (i n b : ℕ) → b < 2 ^ n → n ≤ i → bit i b ≡ 0
bit_high i n b h l =
    let p : 2 ^ n ≤ 2 ^ i = pow_mono l in
    let z : b / 2 ^ i ≡ 0 = div-eq_of_lt (omega arith) in
    rw z

pub member_within : (i n : ℕ) (s : PartySet) → within n s ≡ true → member i s ≡ true → i < n
unfolding within member
member_within i n s w e =
    elim (dec_lt i n) [
      | yes h ↦ h
      | no h ↦ absurd (false≢true (sym (ap (λ (b : ℕ). eqb b 1) (bit_high i n s.bits (ltb-true s.bits (2 ^ n) w) (omega arith))) ∙ e))
    ]

pub within_all : (n : ℕ) → within n (all n) ≡ true
unfolding within all
within_all n = lt-ltb (2 ^ n - 1) (2 ^ n) (omega (arith, pow_pos n))

-- the members of a set that are below n
pub below_within : (n : ℕ) (s : PartySet) → within n (meet s (all n)) ≡ true
unfolding within meet all
below_within n s = lt-ltb (bit_and s.bits (2 ^ n - 1)) (2 ^ n) (omega (arith, and_le_r s.bits (2 ^ n - 1), pow_pos n))

pub below_member : (i n : ℕ) (s : PartySet) → i < n → member i (meet s (all n)) ≡ member i s
below_member i n s h = member_meet i s (all n) ∙ rw (member_all i n h) (and-true (member i s))

-- a set that is not empty has a member
some_bit : (n : ℕ) → eqb n 0 ≡ false → (i : ℕ) × (eqb (bit i n) 1 ≡ true)
some_bit = bin_ind (λ (n : ℕ). eqb n 0 ≡ false → (i : ℕ) × (eqb (bit i n) 1 ≡ true)) (λ h. absurd (false≢true (sym h))) step
  where
    step : (n : ℕ) → (eqb (n / 2) 0 ≡ false → (i : ℕ) × (eqb (bit i (n / 2)) 1 ≡ true)) → eqb n 0 ≡ false → (i : ℕ) × (eqb (bit i n) 1 ≡ true)
    step n ih h =
        elim (dec_lt 0 (n % 2)) [
          | yes o ↦ (0, let e : n % 2 ≡ 1 = omega arith in rw (bit_zero, e))
          | no o ↦
              let (i, t) = ih (ne_eqb (n / 2) 0 (λ z. eqb-false n 0 h (omega arith))) in
              (suc i, rw (bit_suc i n) t)
        ]

pub no_member : (i : ℕ) (s : PartySet) → is_empty s ≡ true → member i s ≡ false
unfolding is_empty member
no_member i s h = rw (eqb-true s.bits 0 h, bit_none i)

pub some_member : (s : PartySet) → is_empty s ≡ false → (i : ℕ) × (member i s ≡ true)
unfolding is_empty member
some_member s h = some_bit s.bits h

-- sets that test the same are the same
pub same_set_lem : (s t : PartySet) → same_set s t ≡ true → s ≡ t
unfolding same_set
same_set_lem s t e = ap (λ (b : ℕ). record { bits = b }) (eqb-true s.bits t.bits e)

pub same_self : (s : PartySet) → same_set s s ≡ true
unfolding same_set
same_self s = eq-eqb s.bits s.bits refl

-- ---- the lowest party of a set

-- r is the lowest of the k parties from i on, or i + k
record Lowest (k i : ℕ) (s : PartySet) (r : ℕ) : Type 0 where
  least : i ≤ r
  one : r < i + k → member r s ≡ true
  passed : (j : ℕ) → i ≤ j → j < r → member j s ≡ false

lowest_from_lem : (k i : ℕ) (s : PartySet) → Lowest k i s (lowest_from k i s)
unfolding lowest_from
lowest_from_lem zero i s = record { least = omega arith; one = λ h. absurd (omega arith); passed = λ j h l. absurd (omega arith) }
lowest_from_lem (suc k) i s = go (member i s) refl (lowest_from_lem k (suc i) s)
  where
    go : (t : Bool) → member i s ≡ t → Lowest k (suc i) s (lowest_from k (suc i) s) → Lowest (suc k) i s (cond t i (lowest_from k (suc i) s))
    go true q r = record { least = omega arith; one = λ h. q; passed = λ j h l. absurd (omega arith) }
    go false q r =
        record {
          least = omega (arith, r.least);
          one = λ h. r.one (omega arith);
          passed = λ j h l. elim (dec_lt i j) [
            | yes o ↦ r.passed j o l
            | no o ↦ let e : j ≡ i = omega arith in rw e q
          ];
        }

-- ---- the lowest party of a set, and the others

-- it is in the set where it is below 16
pub lowest_member : (s : PartySet) → lowest s < max_parties → member (lowest s) s ≡ true
unfolding lowest
lowest_member s h = (lowest_from_lem 16 0 s).one h

-- no party below it is
pub lowest_none : (j : ℕ) (s : PartySet) → j < lowest s → member j s ≡ false
unfolding lowest
lowest_none j s l = (lowest_from_lem 16 0 s).passed j (omega arith) l

pub lowest_least : (j : ℕ) (s : PartySet) → member j s ≡ true → lowest s ≤ j
lowest_least j s e =
    elim (dec_lt j (lowest s)) [
      | yes l ↦ absurd (false≢true (sym (lowest_none j s l) ∙ e))
      | no l ↦ omega arith
    ]

no_bit : (i : ℕ) (s : PartySet) → member i s ≡ false → bit i s.bits ≡ 0
unfolding member
no_bit i s q = omega (arith, eqb-false (bit i s.bits) 1 q)

-- where one of two last digits is 0
and_even : (a b h : ℕ) → min (a % 2) (b % 2) ≡ 0 → b / 2 ≡ h → bit_and a b ≡ bit_and (a / 2) h * 2
and_even a b h z e = and_step a b ∙ rw (e, z, add-zero)

before_odd : (b : ℕ) → bit 0 b ≡ 1 → bit_and b (b - 1) ≡ b / 2 * 2
before_odd b o = let e : b % 2 ≡ 1 = sym (bit_zero b) ∙ o in and_even b (b - 1) (b / 2) (omega arith) (omega arith) ∙ rw (and_self (b / 2))

before_even : (b : ℕ) → bit 0 b ≡ 0 → bit_and b (b - 1) ≡ bit_and (b / 2) (b / 2 - 1) * 2
before_even b o = let e : b % 2 ≡ 0 = sym (bit_zero b) ∙ o in and_even b (b - 1) (b / 2 - 1) (omega arith) (omega arith)

-- a number and the one before it share all ones but the lowest
rest_bit : (r b : ℕ) → bit r b ≡ 1 → ((j : ℕ) → j < r → bit j b ≡ 0) → (j : ℕ) → eqb (bit j (bit_and b (b - 1))) 1 ≡ eqb (bit j b) 1 && not (eqb j r)
rest_bit zero b o z zero = rw (before_odd b o, twice_last (b / 2)) (sym (and-false (eqb (bit 0 b) 1)))
rest_bit zero b o z (suc i) = rw (before_odd b o, twice_suc i (b / 2), eqb-suc-zero i, bit_suc i b) (sym (and-true (eqb (bit i (b / 2)) 1)))
rest_bit (suc r) b o z zero = rw (before_even b (z 0 (omega arith)), twice_last (bit_and (b / 2) (b / 2 - 1)), z 0 (omega arith))
rest_bit (suc r) b o z (suc i) =
    rw (before_even b (z 0 (omega arith)), twice_suc i (bit_and (b / 2) (b / 2 - 1)), bit_suc i b, eqb-suc-suc i r)
    (rest_bit r (b / 2) (sym (bit_suc r b) ∙ o) (λ j l. sym (bit_suc j b) ∙ z (suc j) (omega arith)) i)

pub member_rest : (j : ℕ) (s : PartySet) → lowest s < max_parties → member j (rest s) ≡ member j s && not (eqb j (lowest s))
unfolding member rest
member_rest j s h = rest_bit (lowest s) s.bits (eqb-true (bit (lowest s) s.bits) 1 (lowest_member s h)) (λ i l. no_bit i s (lowest_none i s l)) j

pub rest_rises : (s : PartySet) → lowest s < max_parties → lowest s < lowest (rest s)
rest_rises s h =
    elim (dec_lt (lowest s) (lowest (rest s))) [
      | yes l ↦ l
      | no l ↦ absurd (false≢true (sym (none_yet (lowest (rest s)) (omega arith)) ∙ lowest_member (rest s) (omega arith)))
    ]
  where
    none_yet : (j : ℕ) → j ≤ lowest s → member j (rest s) ≡ false
    none_yet j l =
        elim (dec_lt j (lowest s)) [
          | yes b ↦ member_rest j s h ∙ rw (lowest_none j s b)
          | no b ↦ member_rest j s h ∙ rw (eq-eqb j (lowest s) (omega arith)) (and-false (member j s))
        ]

-- the others are fewer
pub rest_fewer : (s : PartySet) → is_empty s ≡ false → (rest s).bits < s.bits
unfolding is_empty rest
rest_fewer s h = omega (arith, and_le_r s.bits (s.bits - 1), eqb-false s.bits 0 h)

-- ---- "m has one party": a set of count 1 has one member, and that is the lowest

some_counted : (k i j : ℕ) (s : PartySet) → i ≤ j → j < i + k → bit j s.bits ≡ 1 → 1 ≤ count_from k i s
unfolding count_from
some_counted zero i j s h l e = absurd (omega arith)
some_counted (suc k) i j s h l e =
    elim (dec_lt i j) [
      | yes o ↦ omega (arith, some_counted k (suc i) j s (omega arith) (omega arith) e)
      | no o ↦ let q : j ≡ i = omega arith in omega (arith, rw q at e)
    ]

two_counted : (k i j l : ℕ) (s : PartySet) → i ≤ j → j < l → l < i + k → bit j s.bits ≡ 1 → bit l s.bits ≡ 1 → 2 ≤ count_from k i s
unfolding count_from
two_counted zero i j l s a b c d e = absurd (omega arith)
two_counted (suc k) i j l s a b c d e =
    elim (dec_lt i j) [
      | yes o ↦ omega (arith, two_counted k (suc i) j l s (omega arith) b (omega arith) d e)
      | no o ↦ let q : j ≡ i = omega arith in omega (arith, rw q at d, some_counted k (suc i) l s (omega arith) (omega arith) e)
    ]

pub sole_member : (s : PartySet) (i j : ℕ) → count s ≡ 1 → i < max_parties → member i s ≡ true → j < max_parties → member j s ≡ true → i ≡ j
unfolding count member
sole_member s i j e hi mi hj mj =
    let bi : bit i s.bits ≡ 1 = eqb-true (bit i s.bits) 1 mi in
    let bj : bit j s.bits ≡ 1 = eqb-true (bit j s.bits) 1 mj in
    elim (dec_lt i j) [
      | yes h ↦ absurd (omega (arith, two_counted 16 0 i j s (omega arith) h (omega arith) bi bj))
      | no h ↦
          elim (dec_lt j i) [
            | yes l ↦ absurd (omega (arith, two_counted 16 0 j i s (omega arith) l (omega arith) bj bi))
            | no l ↦ omega arith
          ]
    ]

-- the lowest party of a set that has some is one of them
counted_some : (k i : ℕ) (s : PartySet) → 1 ≤ count_from k i s → lowest_from k i s < i + k
unfolding count_from lowest_from
counted_some zero i s h = absurd (omega arith)
counted_some (suc k) i s h = go (member i s) refl (counted_some k (suc i) s)
  where
    go : (t : Bool) → member i s ≡ t → (1 ≤ count_from k (suc i) s → lowest_from k (suc i) s < suc i + k) → cond t i (lowest_from k (suc i) s) < i + suc k
    go true q r = omega arith
    go false q r = omega (arith, r (omega (arith, no_bit i s q)))

pub lowest_one : (m : PartySet) → count m ≡ 1 → (member (lowest m) m ≡ true) × (lowest m < max_parties)
unfolding count lowest
lowest_one m e = let l : lowest m < max_parties = counted_some 16 0 m (omega arith) in (lowest_member m l, l)

pub only_member : (s : PartySet) (i : ℕ) → count s ≡ 1 → i < max_parties → member i s ≡ true → lowest s ≡ i
only_member s i e h m = let l = lowest_one s e in sole_member s (lowest s) i e l.1 l.0 h m
