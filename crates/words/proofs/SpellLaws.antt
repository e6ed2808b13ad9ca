-- Bytes as the digits of one number, over the width. Assumes nothing.
use mathlib.Core.Path.{◌≡◌, refl}
use mathlib.Core.List.{List}
use Prim.Native.Nat.{ℕ, zero, suc, ◌+◌, ◌*◌, ◌/◌, ◌%◌, ◌^◌, ◌≤◌}
use native.Mathlib.Nat.{zero-add, add-zero, one-mul, mul_assoc, div-one, mod-one, pow-suc, pow-succ', one-le-pow, div-div-eq-div-mul}
use native.Mathlib.Omega.{arith}
use lib.Arith.{mod-mul}
use lib.ListN.{get_or}
use mir.Syntax.{w8}
use mir.Val.{Fits}
use Rattle.words.specs.Words.{number_at, Spells}

-- the number of some bytes and of those after them
pub number_join : (a b : ℕ) (xs : List ℕ) (i : ℕ) {m n : ℕ} → m ≡ number_at a xs i → n ≡ number_at b xs (i + a) → m + 256 ^ a * n ≡ number_at (a + b) xs i
unfolding number_at
number_join zero b xs i p q = rw (p, q) (simp (zero-add, one-mul, add-zero))
number_join (suc a) b xs i {n} p q =
    let e : suc a + b ≡ suc (a + b) = omega arith in
    let f : i + suc a ≡ i + 1 + a = omega arith in
    let r : number_at a xs (i + 1) + 256 ^ a * n ≡ number_at (a + b) xs (i + 1) = number_join a b xs (i + 1) refl (rw f at q) in
    rw (e, pow-succ' 256 a, mul_assoc 256 (256 ^ a) n) (omega arith)

-- a number's digits are the bytes that it was read from
pub number_spells : (k : ℕ) (xs : List ℕ) (i : ℕ) {n : ℕ} → ((j : ℕ) → Fits w8 (get_or xs j 0)) → n ≡ number_at k xs i → Spells k xs i n
unfolding number_at
number_spells zero xs i fit e j h = absurd (omega arith)
number_spells (suc k) xs i {n} fit e zero h = rw (div-one, add-zero) (omega (arith, fit i))
number_spells (suc k) xs i {n} fit e (suc j) h =
    let f : i + suc j ≡ i + 1 + j = omega arith in
    let above : n / 256 ≡ number_at k xs (i + 1) = omega (arith, fit i) in
    rw (f, pow-succ' 256 j, ← div-div-eq-div-mul n 256 (256 ^ j)) (number_spells k xs (i + 1) fit above j (omega arith))

-- some digits of a number are the number of their bytes
pub spelled_number : (m k : ℕ) (xs : List ℕ) (i n j : ℕ) → Spells k xs i n → j + m ≤ k → n / 256 ^ j % 256 ^ m ≡ number_at m xs (i + j)
unfolding number_at
spelled_number zero k xs i n j s h = mod-one _
spelled_number (suc m) k xs i n j s h =
    let f : i + suc j ≡ i + j + 1 = omega arith in
    let above : n / 256 ^ j / 256 % 256 ^ m ≡ number_at m xs (i + j + 1) = rw (div-div-eq-div-mul n (256 ^ j) 256, ← pow-suc 256 j, ← f) (spelled_number m k xs i n (suc j) s (omega arith)) in
    rw (pow-suc 256 m) (omega (arith, mod-mul (n / 256 ^ j) {m = 256 ^ m} {c = 256} (one-le-pow m 256 (omega arith)) (omega arith), s j (omega arith)))
