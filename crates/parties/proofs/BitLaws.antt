-- What the machine's counts and shifts of 16 bits say of a party set. Assumes nothing.
use mathlib.Core.Path.{◌≡◌, refl, sym, ap, ◌∙◌}
use mathlib.Core.Bool.{Bool, true, false, cond}
use Prim.Native.Nat.{ℕ, zero, suc, ◌+◌, ◌-◌, ◌*◌, ◌/◌, ◌%◌, ◌^◌, ◌≤◌, ◌<◌}
use native.Mathlib.Nat.{pow-suc, div-div-eq-div-mul, div-one, one-mul, mod-eq_of_lt, div-eq_of_lt, div-lt_iff_lt-mul}
use native.Mathlib.Decide.{dec_lt}
use native.Mathlib.Omega.{arith}
use borrow.Author.Tests.{eq-eqb, ne_eqb, lt-ltb, le-ltb}
use lib.Count.{ones, ones_step, count_trailing_zeros, trailing_le, under}
use lib.Dec.{eqb}
use lib.Pow.{pow-lt, pow_mono, pow_pos}
use Rattle.parties.specs.Sets.{bit, member, count_from, count, lowest_from, lowest, rest, within, only, join, same_set, make_up}
use Rattle.parties.specs.SetLaws.{bit_high, member_join, member_only, same_set_lem}
use Rattle.parties.specs.declared.sets.PartySet.{PartySet}

half_of : (n i : ℕ) → n / 2 ^ i / 2 ≡ n / 2 ^ suc i
half_of n i = div-div-eq-div-mul n (2 ^ i) 2 ∙ ap (λ (d : ℕ). n / d) (sym (pow-suc 2 i))

-- the count of ones is the count of parties
ones_from : (k i : ℕ) (s : PartySet) → s.bits / 2 ^ i < 2 ^ k → ones (s.bits / 2 ^ i) ≡ count_from k i s
unfolding count_from ones
ones_from zero i s h = let z : s.bits / 2 ^ i ≡ 0 = omega arith in rw z
ones_from (suc k) i s h =
    let p : 2 ^ suc k ≡ 2 ^ k * 2 = pow-suc 2 k in
    let q : s.bits / 2 ^ i / 2 ≡ s.bits / 2 ^ suc i = half_of s.bits i in
    ones_step (s.bits / 2 ^ i) ∙ ap (λ (n : ℕ). bit i s.bits + n) (ap ones q ∙ ones_from k (suc i) s (omega arith))

pub ones_are_parties : (s : PartySet) → s.bits < 65536 → ones s.bits ≡ count s
unfolding count
ones_are_parties s h =
    let e : s.bits / 2 ^ 0 ≡ s.bits = div-one s.bits in
    ap ones (sym e) ∙ ones_from 16 0 s (omega arith)

-- the zeros below the lowest one
zeros_from : (k i : ℕ) (s : PartySet) → i + count_trailing_zeros k (s.bits / 2 ^ i) ≡ lowest_from k i s
unfolding lowest_from count_trailing_zeros member
zeros_from zero i s = omega arith
zeros_from (suc k) i s = go (s.bits / 2 ^ i % 2) refl (omega arith) (zeros_from k (suc i) s)
  where
    go : (d : ℕ) → s.bits / 2 ^ i % 2 ≡ d → d < 2 → suc i + count_trailing_zeros k (s.bits / 2 ^ suc i) ≡ lowest_from k (suc i) s
        → i + under d (count_trailing_zeros k (s.bits / 2 ^ i / 2)) ≡ cond (eqb d 1) i (lowest_from k (suc i) s)
    go zero e h r = rw (half_of s.bits i) (omega arith)
    go (suc zero) e h r = omega arith
    go (suc (suc d)) e h r = absurd (omega arith)

pub zeros_are_below : (s : PartySet) → count_trailing_zeros 16 s.bits ≡ lowest s
unfolding lowest
zeros_are_below s =
    let e : s.bits / 2 ^ 0 ≡ s.bits = div-one s.bits in
    ap (λ (n : ℕ). count_trailing_zeros 16 n) (sym e) ∙ omega (arith, zeros_from 16 0 s)

pub zeros_few : (n : ℕ) → count_trailing_zeros 16 n < 256
zeros_few n = omega (arith, trailing_le 16 n)

-- no party above 15 is in a set of 16 bits
pub none_above : (i : ℕ) (s : PartySet) → s.bits < 65536 → 16 ≤ i → false ≡ member i s
unfolding member
none_above i s h l = rw (bit_high i 16 s.bits h l)

-- a shift by n that leaves nothing
pub shifted_within : (n : ℕ) (s : PartySet) → eqb (s.bits / 2 ^ n) 0 ≡ within n s
unfolding within
shifted_within n s =
    elim (dec_lt s.bits (2 ^ n)) [
      | yes h ↦ rw (div-eq_of_lt h, lt-ltb s.bits (2 ^ n) h)
      | no h ↦
          let l : 2 ^ n ≤ s.bits = omega arith in
          rw (le-ltb s.bits (2 ^ n) l) (ne_eqb (s.bits / 2 ^ n) 0 (λ z. h (one_mul_lt ((div-lt_iff_lt-mul (pow_pos n)).0 (omega arith)))))
    ]
  where
    one_mul_lt : s.bits < 1 * 2 ^ n → s.bits < 2 ^ n
    one_mul_lt h = omega arith

pub all_within : (n : ℕ) (s : PartySet) → s.bits < 65536 → 16 ≤ n → true ≡ within n s
unfolding within
all_within n s h l = sym (lt-ltb s.bits (2 ^ n) (omega (arith, pow_mono l)))

-- a one that is shifted to bit i
pub shifted_one : (w i : ℕ) → i < w → 1 * 2 ^ i % 2 ^ w ≡ 2 ^ i
shifted_one w i h = let l : 2 ^ i < 2 ^ w = pow-lt h in rw one-mul (mod-eq_of_lt l)

-- who is above 15 makes up no set of 16 bits
pub none_made : (a : ℕ) (q m : PartySet) → m.bits < 65536 → 16 ≤ a → false ≡ make_up a q m
unfolding make_up
none_made a q m h l = go (same_set m (join (only a) q)) refl
  where
    go : (t : Bool) → same_set m (join (only a) q) ≡ t → false ≡ t
    go false e = refl
    go true e =
        let j : member a (join (only a) q) ≡ true = member_join a (only a) q ∙ rw (member_only a a, eq-eqb a a refl) in
        none_above a m h l ∙ ap (λ (s : PartySet). member a s) (same_set_lem m (join (only a) q) e) ∙ j

-- the ones below bit n
pub record Ones (n b : ℕ) : Type 0 where
  pub some : 1 ≤ b
  pub fits : b - 1 < 65536
  pub is : b - 1 ≡ 2 ^ n - 1

pub ones_below : (n : ℕ) → n ≤ 16 → Ones n (1 * 2 ^ n % 2 ^ 32)
ones_below n h =
    let e : 1 * 2 ^ n % 2 ^ 32 ≡ 2 ^ n = shifted_one 32 n (omega arith) in
    let l : 2 ^ n ≤ 2 ^ 16 = pow_mono h in
    record { some = omega (arith, pow_pos n); fits = omega arith; is = omega arith }

-- an empty set has no lowest party to lose
pub rest_none : (s : PartySet) → s.bits ≡ 0 → s ≡ rest s
unfolding rest
rest_none s h = ap (λ (n : ℕ). record { bits = n }) (rw h)
