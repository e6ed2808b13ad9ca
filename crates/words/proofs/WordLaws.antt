-- A number's bytes, low byte first: what is read where they were written, over the width. Assumes nothing.
use mathlib.Core.Path.{◌≡◌, refl, ap, ◌∙◌}
use mathlib.Core.List.{List, ◌∷◌, ◌++◌, append_assoc}
use Prim.Native.Nat.{ℕ, zero, suc, ◌+◌, ◌-◌, ◌*◌, ◌/◌, ◌%◌, ◌^◌, ◌≤◌, ◌<◌}
use native.Mathlib.Nat.{add_assoc, add-zero, zero-add, pow-suc, div-one, div-div-eq-div-mul}
use native.Mathlib.Omega.{arith}
use borrow.Rule.Slice.PartMut.{put_mid}
use lib.ListN.{length, get_or, get_or-append, take, drop}
use lib.Seq.{sets, sets-eq, get_or-append-add, drop-drop}
use lib.IntN.{ℤ}
use mir.Syntax.{w32}
use mir.Val.{SFits}
use Rattle.std.specs.Int.{byte_at, bytes_low_first}
use Rattle.numbers.specs.Integers.{residue}
use Rattle.words.specs.Words.{low_first, number_at, integer_bytes, integer_at}
use Rattle.stretches.proofs.StretchLaws.{sets_at}
use Rattle.numbers.proofs.IntegerLaws.{signed_residue, residue_fits}

-- the bytes that the library makes of a number
bytes_low : (k i n : ℕ) → bytes_low_first i k n ≡ low_first k (n / 256 ^ i)
unfolding low_first
bytes_low zero i n = refl
bytes_low (suc k) i n =
    let first : byte_at i n ≡ n / 256 ^ i % 256 = byte i in
    let others : bytes_low_first (suc i) k n ≡ low_first k (n / 256 ^ i / 256) = bytes_low k (suc i) n ∙ rw (pow-suc 256 i, div-div-eq-div-mul n (256 ^ i) 256) in
    rw (first, others)
  where
    byte : (j : ℕ) → byte_at j n ≡ n / 256 ^ j % 256
    byte zero = rw (div-one n)
    byte (suc j) = refl

pub length_bytes : (k n : ℕ) → length (low_first k n) ≡ k
unfolding low_first
length_bytes zero n = refl
length_bytes (suc k) n = ap suc (length_bytes k (n / 256))

-- what a store leaves of a number's k bytes
pub stored : (k n at : ℕ) (xs ys : List ℕ) → at + k ≤ length xs → ys ≡ bytes_low_first 0 k n → put_mid at (at + k - at) xs ys ≡ sets xs at (low_first k n)
stored k n at xs ys h e =
    let is : ys ≡ low_first k n = e ∙ bytes_low k 0 n ∙ rw (div-one n) in
    let l : length ys ≡ k = rw is (length_bytes k n) in
    let m : at + k - at ≡ k = omega arith in
    rw (← is, sets-eq ys xs at (rw l h), l, m, drop-drop k at xs, append_assoc (take at xs) ys (drop (at + k) xs))

-- what is read of bytes goes by those bytes alone
pub number_same : (k : ℕ) (xs : List ℕ) (i : ℕ) (ys : List ℕ) (j : ℕ) → ((l : ℕ) → l < k → get_or xs (i + l) 0 ≡ get_or ys (j + l) 0) → number_at k xs i ≡ number_at k ys j
unfolding number_at
number_same zero xs i ys j e = refl
number_same (suc k) xs i ys j e =
    let e0 : get_or xs i 0 ≡ get_or ys j 0 = simp add-zero at (e 0 (omega arith)) in
    let r : number_at k xs (i + 1) ≡ number_at k ys (j + 1) = number_same k xs (i + 1) ys (j + 1) (λ l h. simp add_assoc (e (1 + l) (omega arith))) in
    omega arith

-- a number below 256^k has k bytes
pub number_bytes : (k n : ℕ) → n < 256 ^ k → number_at k (low_first k n) 0 ≡ n
unfolding number_at low_first
number_bytes zero n h = omega arith
number_bytes (suc k) n h =
    let p : 256 ^ suc k ≡ 256 ^ k * 256 = pow-suc 256 k in
    let s : number_at k (n % 256 ∷ low_first k (n / 256)) 1 ≡ number_at k (low_first k (n / 256)) 0 = number_same k (n % 256 ∷ low_first k (n / 256)) 1 (low_first k (n / 256)) 0
    (λ l j. let e : 1 + l ≡ suc l = omega arith in rw (e, zero-add)) in
    let r : number_at k (low_first k (n / 256)) 0 ≡ n / 256 = number_bytes k (n / 256) (omega arith) in
    omega arith

-- a number that was written is read back
pub number_back : (k n : ℕ) (xs : List ℕ) (at : ℕ) → n < 256 ^ k → at + k ≤ length xs → number_at k (sets xs at (low_first k n)) at ≡ n
number_back k n xs at h f =
    number_same k (sets xs at (low_first k n)) at (low_first k n) 0
    (λ l j. sets_at (low_first k n) xs at l (rw (length_bytes k n) j) (rw (length_bytes k n) f) ∙ rw zero-add)
    ∙ number_bytes k n h

pub integer_back : (z : ℤ) (xs : List ℕ) (at : ℕ) → SFits w32 z → at + 4 ≤ length xs → integer_at (sets xs at (integer_bytes z)) at ≡ z
integer_back z xs at h f = rw (number_back 4 (residue z) xs at (residue_fits z) f) (signed_residue z h)

-- a number's bytes among others
pub number_in : (k n : ℕ) (before after : List ℕ) → n < 256 ^ k → number_at k (before ++ (low_first k n ++ after)) (length before) ≡ n
number_in k n before after h =
    number_same k (before ++ (low_first k n ++ after)) (length before) (low_first k n) 0
    (λ l j. get_or-append-add before (low_first k n ++ after) l 0 ∙ get_or-append (low_first k n) after 0 l (rw (length_bytes k n) j) ∙ rw zero-add)
    ∙ number_bytes k n h

pub integer_in : (z : ℤ) (before after : List ℕ) → SFits w32 z → integer_at (before ++ (integer_bytes z ++ after)) (length before) ≡ z
integer_in z before after h = rw (number_in 4 (residue z) before after (residue_fits z)) (signed_residue z h)
