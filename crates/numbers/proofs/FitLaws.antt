-- 32-bit integers widened to 64 bits: their sums, differences and products fit there, and what such an operation gives is
-- that of the integers themselves. Assumes nothing.
use mathlib.Core.Path.{◌≡◌, refl, ap, ◌∙◌}
use mathlib.Core.Bool.{Bool, true, false, cond}
use Prim.Native.Nat.{ℕ, zero, suc, ◌+◌, ◌-◌, ◌*◌, ◌^◌, ◌≤◌}
use native.Mathlib.Omega.{arith}
use native.Mathlib.Nat.{le_trans, mul-le-mul_left, mul-le-mul_right}
use lib.IntN.{ℤ, pos, negsuc, neg_ℤ, sub_ℕ, ◌+ℤ◌, ◌-ℤ◌, ◌*ℤ◌}
use lib.Signed.{mag}
use lib.Dec.{ltb}
use mir.Syntax.{w32, w64}
use mir.Val.{SFits, to_z, of_z}
use Rattle.numbers.specs.Integers.{reduced}
use Rattle.numbers.proofs.IntegerLaws.{read, read32}

-- how large a difference, a negated number and a product can be
pub sub_mag : (a b : ℕ) → mag (sub_ℕ a b) ≤ a + b
sub_mag a b = go (ltb a b) refl
  where
    go : (t : Bool) → ltb a b ≡ t → mag (cond t (negsuc (b - suc a)) (pos (a - b))) ≤ a + b
    go true e = omega arith
    go false e = omega arith

pub neg_mag : (n : ℕ) → mag (neg_ℤ (pos n)) ≤ n
neg_mag zero = omega arith
neg_mag (suc n) = omega arith

prod_mag : (a b : ℕ) → a ≤ 2 ^ 31 → b ≤ 2 ^ 31 → a * b ≤ 2 ^ 62
prod_mag a b h k = le_trans (mul-le-mul_left a k) (mul-le-mul_right (2 ^ 31) h)

-- two 32-bit integers: they, their sum, difference and product fit 64 bits
pub widens : (x : ℤ) → SFits w32 x → SFits w64 x
widens x h = record { sfits = omega arith }

sum_mag : (x y : ℤ) → mag x ≤ 2 ^ 31 → mag y ≤ 2 ^ 31 → SFits w64 (x +ℤ y)
sum_mag (pos a) (pos b) h k = record { sfits = omega arith }
sum_mag (pos a) (negsuc b) h k = record { sfits = omega (arith, sub_mag a (suc b)) }
sum_mag (negsuc a) (pos b) h k = record { sfits = omega (arith, sub_mag b (suc a)) }
sum_mag (negsuc a) (negsuc b) h k = record { sfits = omega arith }

pub sum_fits : (x y : ℤ) → SFits w32 x → SFits w32 y → SFits w64 (x +ℤ y)
sum_fits x y h k = sum_mag x y (omega arith) (omega arith)

negated_mag : (y : ℤ) → SFits w32 y → mag (neg_ℤ y) ≤ 2 ^ 31
negated_mag (pos zero) h = omega arith
negated_mag (pos (suc n)) h = omega arith
negated_mag (negsuc n) h = omega arith

pub diff_fits : (x y : ℤ) → SFits w32 x → SFits w32 y → SFits w64 (x -ℤ y)
diff_fits x y h k = sum_mag x (neg_ℤ y) (omega arith) (negated_mag y k)

pub prod_fits : (x y : ℤ) → SFits w32 x → SFits w32 y → SFits w64 (x *ℤ y)
prod_fits (pos a) (pos b) h k = record { sfits = omega (arith, prod_mag a b (omega arith) (omega arith)) }
prod_fits (pos a) (negsuc b) h k = record { sfits = omega (arith, neg_mag (a * suc b), prod_mag a (suc b) (omega arith) (omega arith)) }
prod_fits (negsuc a) (pos b) h k = record { sfits = omega (arith, neg_mag (suc a * b), prod_mag (suc a) b (omega arith) (omega arith)) }
prod_fits (negsuc a) (negsuc b) h k = record { sfits = omega (arith, prod_mag (suc a) (suc b) (omega arith) (omega arith)) }

-- an operand that goes from 32 to 64 bits
abbrev pub widened : ℤ → ℤ
widened x = to_z w64 (of_z w64 (to_z w32 (of_z w32 x)))

pub cast_fits : (x : ℤ) → SFits w32 x → SFits w64 (to_z w32 (of_z w32 x))
cast_fits x h = rw (read32 x h) (widens x h)

widened_is : (x : ℤ) → SFits w32 x → widened x ≡ x
widened_is x h = rw (read32 x h) (read x (widens x h))

-- an operation on 64 bits whose true result fits them, and that result reduced
module _ (x y : ℤ) (hx : SFits w32 x) (hy : SFits w32 y) (f : ℤ → ℤ → ℤ) (h : SFits w64 (f x y)) where
  pub operands_fit : SFits w64 (f (widened x) (widened y))
  operands_fit = rw (widened_is x hx, widened_is y hy) h

  pub result_is : (r : ℤ) → SFits w32 r → r ≡ reduced (to_z w64 (of_z w64 (f (widened x) (widened y)))) → to_z w32 (of_z w32 r) ≡ reduced (f x y)
  result_is r k e = read32 r k ∙ e ∙ ap reduced (rw (widened_is x hx, widened_is y hy) (read (f x y) h))
