-- What the remainder toward zero by 2^32 says of the reduced number, below the range of 32-bit integers, above it and
-- within it. Assumes nothing.
use mathlib.Core.Path.{◌≡◌, refl, ap}
use mathlib.Core.Bool.{true, false}
use Prim.Native.Nat.{ℕ, zero, suc, ◌-◌, ◌/◌, ◌%◌, ◌^◌, ◌≤◌, ◌<◌}
use native.Mathlib.Omega.{arith}
use lib.IntN.{ℤ, pos, negsuc, neg_ℤ, ◌+ℤ◌, ◌-ℤ◌}
use lib.Signed.{lt_z, rem_z, quot_z, mag_rem}
use mir.Syntax.{w32, w64}
use mir.Val.{SFits, to_z, of_z}
use mir.ValLaws.{sfits_le}
use borrow.Author.Tests.{ltb-true, ltb-false, lt-ltb, le-ltb}
use Rattle.numbers.specs.Integers.{reduced}
use Rattle.numbers.proofs.IntegerLaws.{no, read, read32}
use Rattle.numbers.proofs.FitLaws.{sub_mag, neg_mag}

-- the remainder toward zero by 2^32
abbrev pub remainder : ℤ → ℤ
remainder z = rem_z z (pos (2 ^ 32))

-- ---- what fits 64 bits: the quotient, the remainder, and the remainder with 2^32 added or taken away
pub quotient_fits : (z : ℤ) → SFits w64 z → SFits w64 (quot_z z (pos (2 ^ 32)))
quotient_fits (pos n) h = record { sfits = omega arith }
quotient_fits (negsuc n) h = record { sfits = omega (arith, neg_mag (suc n / 2 ^ 32)) }

pub remainder_fits : (z : ℤ) → SFits w64 z → SFits w64 (remainder z)
remainder_fits z h = sfits_le (mag_rem z (pos (2 ^ 32))) h

pub raised_fits : (z : ℤ) → SFits w64 (remainder z +ℤ pos (2 ^ 32))
raised_fits (pos n) = record { sfits = omega arith }
raised_fits (negsuc n) = raised (suc n % 2 ^ 32) (omega arith)
  where
    raised : (k : ℕ) → k ≤ 2 ^ 32 → SFits w64 (neg_ℤ (pos k) +ℤ pos (2 ^ 32))
    raised zero h = record { sfits = omega arith }
    raised (suc j) h = record { sfits = omega (arith, sub_mag (2 ^ 32) (suc j)) }

pub lowered_fits : (z : ℤ) → SFits w64 (remainder z -ℤ pos (2 ^ 32))
lowered_fits (pos n) = record { sfits = omega (arith, sub_mag (n % 2 ^ 32) (2 ^ 32)) }
lowered_fits (negsuc n) = lowered (suc n % 2 ^ 32) (omega arith)
  where
    lowered : (k : ℕ) → k ≤ 2 ^ 32 → SFits w64 (neg_ℤ (pos k) -ℤ pos (2 ^ 32))
    lowered zero h = record { sfits = omega arith }
    lowered (suc j) h = record { sfits = omega arith }

-- ---- r is z reduced, by the three ranges of the remainder; -2^31, their lower end, is negsuc (2^31 - 1)
pub record Reduced (z r : ℤ) : Type 0 where
  pub fits : SFits w32 r
  pub is : r ≡ reduced z

-- a remainder below -2^31
pub from_below : (z : ℤ) → lt_z (remainder z) (negsuc (2 ^ 31 - 1)) ≡ true → Reduced z (remainder z +ℤ pos (2 ^ 32))
unfolding reduced
from_below (pos n) h = no h
from_below (negsuc n) h = negative_below (suc n % 2 ^ 32) refl h
  where
    negative_below : (k : ℕ) → suc n % 2 ^ 32 ≡ k → lt_z (neg_ℤ (pos k)) (negsuc (2 ^ 31 - 1)) ≡ true → Reduced (negsuc n) (neg_ℤ (pos k) +ℤ pos (2 ^ 32))
    negative_below zero e h = no h
    negative_below (suc j) e h =
        let l : 2 ^ 31 - 1 < j = ltb-true (2 ^ 31 - 1) j h in
        let m : n % 2 ^ 32 ≡ j = omega arith in
        record {
          fits = rw (le-ltb (2 ^ 32) (suc j) (omega arith)) (record { sfits = omega arith });
          is = rw (le-ltb (2 ^ 32) (suc j) (omega arith), m, lt-ltb (2 ^ 32 - 1 - j) (2 ^ 31) (omega arith)) (ap pos (omega arith));
        }

-- a remainder from 2^31 on
pub from_above : (z : ℤ) → lt_z (pos (2 ^ 31 - 1)) (remainder z) ≡ true → Reduced z (remainder z -ℤ pos (2 ^ 32))
unfolding reduced
from_above (pos n) h =
    let l : 2 ^ 31 - 1 < n % 2 ^ 32 = ltb-true (2 ^ 31 - 1) (n % 2 ^ 32) h in
    record {
      fits = rw (lt-ltb (n % 2 ^ 32) (2 ^ 32) (omega arith)) (record { sfits = omega arith });
      is = rw (le-ltb (n % 2 ^ 32) (2 ^ 31) (omega arith));
    }
from_above (negsuc n) h = negative_above (suc n % 2 ^ 32) h
  where
    negative_above : (k : ℕ) → lt_z (pos (2 ^ 31 - 1)) (neg_ℤ (pos k)) ≡ true → Reduced (negsuc n) (neg_ℤ (pos k) -ℤ pos (2 ^ 32))
    negative_above zero h = no h
    negative_above (suc j) h = no h

-- a remainder from -2^31 to 2^31 - 1
pub within : (z : ℤ) → lt_z (remainder z) (negsuc (2 ^ 31 - 1)) ≡ false → lt_z (pos (2 ^ 31 - 1)) (remainder z) ≡ false → Reduced z (remainder z)
unfolding reduced
within (pos n) g h =
    let l : n % 2 ^ 32 ≤ 2 ^ 31 - 1 = ltb-false (2 ^ 31 - 1) (n % 2 ^ 32) h in
    record { fits = record { sfits = omega arith }; is = rw (lt-ltb (n % 2 ^ 32) (2 ^ 31) (omega arith)) }
within (negsuc n) g h = negative_within (suc n % 2 ^ 32) refl g
  where
    negative_within : (k : ℕ) → suc n % 2 ^ 32 ≡ k → lt_z (neg_ℤ (pos k)) (negsuc (2 ^ 31 - 1)) ≡ false → Reduced (negsuc n) (neg_ℤ (pos k))
    negative_within zero e h =
        let m : n % 2 ^ 32 ≡ 2 ^ 32 - 1 = omega arith in
        record { fits = record { sfits = omega arith }; is = rw m }
    negative_within (suc j) e h =
        let l : j ≤ 2 ^ 31 - 1 = ltb-false (2 ^ 31 - 1) j h in
        let m : n % 2 ^ 32 ≡ j = omega arith in
        record {
          fits = record { sfits = omega arith };
          is = rw (m, le-ltb (2 ^ 32 - 1 - j) (2 ^ 31) (omega arith), lt-ltb (2 ^ 32 - 1 - j) (2 ^ 32) (omega arith)) (ap negsuc (omega arith));
        }

-- ---- the same as the code has it: z and what it is reduced to are read from their 64 bits, and the result from its 32
abbrev code_remainder : ℤ → ℤ
code_remainder z = to_z w64 (of_z w64 (rem_z (to_z w64 (of_z w64 z)) (pos 4294967296)))

code_is : (z : ℤ) → SFits w64 z → code_remainder z ≡ remainder z
code_is z h = simp (read z h, read (remainder z) (remainder_fits z h))

module _ (z : ℤ) (h : SFits w64 z) where
  below : lt_z (code_remainder z) (negsuc 2147483647) ≡ true → Reduced z (remainder z +ℤ pos 4294967296)
  below t = from_below z (rw (code_is z h) at t)

  pub below_fits : lt_z (code_remainder z) (negsuc 2147483647) ≡ true → SFits w32 (to_z w64 (of_z w64 (code_remainder z +ℤ pos 4294967296)))
  below_fits t = simp (code_is z h, read (remainder z +ℤ pos 4294967296) (raised_fits z)) (below t).fits

  pub below_is : lt_z (code_remainder z) (negsuc 2147483647) ≡ true → to_z w32 (of_z w32 (to_z w64 (of_z w64 (code_remainder z +ℤ pos 4294967296)))) ≡ reduced z
  below_is t = simp (code_is z h, read (remainder z +ℤ pos 4294967296) (raised_fits z), read32 (remainder z +ℤ pos 4294967296) (below t).fits) (below t).is

  above : lt_z (pos 2147483647) (code_remainder z) ≡ true → Reduced z (remainder z -ℤ pos 4294967296)
  above t = from_above z (rw (code_is z h) at t)

  pub above_fits : lt_z (pos 2147483647) (code_remainder z) ≡ true → SFits w32 (to_z w64 (of_z w64 (code_remainder z -ℤ pos 4294967296)))
  above_fits t = simp (code_is z h, read (remainder z -ℤ pos 4294967296) (lowered_fits z)) (above t).fits

  pub above_is : lt_z (pos 2147483647) (code_remainder z) ≡ true → to_z w32 (of_z w32 (to_z w64 (of_z w64 (code_remainder z -ℤ pos 4294967296)))) ≡ reduced z
  above_is t = simp (code_is z h, read (remainder z -ℤ pos 4294967296) (lowered_fits z), read32 (remainder z -ℤ pos 4294967296) (above t).fits) (above t).is

  module _ (g : lt_z (code_remainder z) (negsuc 2147483647) ≡ false) (t : lt_z (pos 2147483647) (code_remainder z) ≡ false) where
    inside : Reduced z (remainder z)
    inside = within z (rw (code_is z h) at g) (rw (code_is z h) at t)

    pub within_fits : SFits w32 (code_remainder z)
    within_fits = rw (code_is z h) inside.fits

    pub within_is : to_z w32 (of_z w32 (code_remainder z)) ≡ reduced z
    within_is = rw (code_is z h, read32 (remainder z) inside.fits) inside.is
