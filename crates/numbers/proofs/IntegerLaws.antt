-- The laws of 32-bit integers that other crates cite: readings of a signed number's bits cancel, two's complement goes there and back,
-- and a reduced number and an operation's result fit 32 bits. Assumes nothing.
use mathlib.Core.Path.{◌≡◌, refl, ap}
use mathlib.Core.Bool.{Bool, true, false, cond}
use Prim.Native.Nat.{ℕ, ◌-◌, ◌%◌, ◌^◌, ◌<◌}
use native.Mathlib.Omega.{arith}
use lib.IntN.{ℤ, pos, negsuc, ◌+ℤ◌, ◌-ℤ◌, ◌*ℤ◌}
use lib.Dec.{ltb}
use mir.Syntax.{w32, w64}
use mir.Val.{SFits, to_z, of_z}
use mir.ValLaws.{to_z-of_z}
use borrow.Author.Tests.{ltb-true, ltb-false, lt-ltb, le-ltb}
use Rattle.numbers.specs.Integers.{residue, signed, reduced, same_integer, negative, flag, operate}
use Rattle.numbers.specs.declared.integers.Operation.{Operation}
use Rattle.numbers.specs.declared.integers.Operation.TheVariants.{Add, Sub, Mul, Eq, Lt}

-- a test is not both true and false
pub no : {A : Type 0} → false ≡ true → A
no h = absurd (let z : ◌≡◌ {A = ℕ} 0 1 = cc in omega arith)

pub no' : {A : Type 0} → true ≡ false → A
no' h = absurd (let z : ◌≡◌ {A = ℕ} 0 1 = cc in omega arith)

-- the two readings of a signed number's bits cancel, at 64 and at 32 bits
pub read : (z : ℤ) → SFits w64 z → to_z w64 (of_z w64 z) ≡ z
read z h = to_z-of_z w64 z h

pub read32 : (z : ℤ) → SFits w32 z → to_z w32 (of_z w32 z) ≡ z
read32 z h = to_z-of_z w32 z h

-- the integer of the two's complement of z is z
pub signed_residue : (z : ℤ) → SFits w32 z → signed (residue z) ≡ z
signed_residue (pos n) h =
    let e : n % 2 ^ 32 ≡ n = omega arith in
    rw (e, lt-ltb n (2 ^ 31) h.sfits)
signed_residue (negsuc n) h =
    let e : n % 2 ^ 32 ≡ n = omega arith in
    rw (e, le-ltb (2 ^ 32 - 1 - n) (2 ^ 31) (omega arith), lt-ltb (2 ^ 32 - 1 - n) (2 ^ 32) (omega arith)) (ap negsuc (omega arith))

-- a residue fits 32 bits, and so does the integer that 32 bits stand for
pub residue_fits : (z : ℤ) → residue z < 2 ^ 32
residue_fits (pos n) = omega arith
residue_fits (negsuc n) = omega arith

pub signed_fits : (n : ℕ) → n < 2 ^ 32 → SFits w32 (signed n)
signed_fits n h = go (ltb n (2 ^ 31)) refl
  where
    go : (t : Bool) → ltb n (2 ^ 31) ≡ t → SFits w32 (cond t (pos n) (pos n -ℤ pos (2 ^ 32)))
    go true e = record { sfits = ltb-true n (2 ^ 31) e }
    go false e = rw (lt-ltb n (2 ^ 32) h) (record { sfits = omega (arith, ltb-false n (2 ^ 31) e) })

-- every reduced number is an integer of 32 bits, and every result of an operation is one
pub reduced_fits : (z : ℤ) → SFits w32 (reduced z)
unfolding reduced
reduced_fits z = signed_fits (residue z) (residue_fits z)

flag_fits : (t : Bool) → SFits w32 (flag t)
flag_fits true = record { sfits = omega arith }
flag_fits false = record { sfits = omega arith }

pub operate_fits : (o : Operation) (x y : ℤ) → SFits w32 (operate o x y)
unfolding operate
operate_fits Add x y = reduced_fits (x +ℤ y)
operate_fits Sub x y = reduced_fits (x -ℤ y)
operate_fits Mul x y = reduced_fits (x *ℤ y)
operate_fits Eq x y = flag_fits (same_integer x y)
operate_fits Lt x y = flag_fits (negative (reduced (x -ℤ y)))
