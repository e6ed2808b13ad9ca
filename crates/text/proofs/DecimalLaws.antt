-- The digits of a number, found from the last to the first. Assumes nothing.
use mathlib.Core.Path.{◌≡◌, sym, ◌∙◌}
use Prim.Native.Nat.{ℕ, zero, suc, ◌-◌, ◌/◌, ◌%◌, ◌^◌, ◌≤◌, ◌<◌}
use mathlib.Core.List.{List, [], ◌∷◌, ◌++◌, append_assoc, append-nil}
use native.Mathlib.Nat.{pow-suc, div-lt_iff_lt-mul}
use native.Mathlib.Omega.{arith}
use borrow.Author.Tests.{lt-ltb, le-ltb}
use lib.ListN.{length, set, take, drop, length-drop, length-set, drop_of_length-le}
use lib.Seq.{drop-cons, drop-set-lt, get_or-set_same, take_all}
use Rattle.text.specs.Text.{digit, decimal_within, max_digits, decimal}

-- from the place that is stored at on
drop_set : (l : List ℕ) (i v : ℕ) → i < length l → drop i (set l i v) ≡ v ∷ drop (suc i) l
drop_set l i v h =
    drop-cons (set l i v) i 0 (rw length-set h) ∙ rw (get_or-set_same l i v 0 h, drop-set-lt (suc i) l i v (omega arith))

-- a number of one digit, and one of more
within_last : (k n : ℕ) → n ≤ 9 → decimal_within (suc k) n ≡ digit n ∷ []
unfolding decimal_within
within_last k n h = rw (lt-ltb n 10 (omega arith))

within_more : (k n : ℕ) → 9 < n → decimal_within (suc k) n ≡ decimal_within k (n / 10) ++ (digit (n % 10) ∷ [])
unfolding decimal_within
within_more k n h = rw (le-ltb n 10 h)

-- the digits after `first` are found, and those of `left` are not
pub record Found (n : ℕ) (digits : List ℕ) (first left : ℕ) : Type 0 where
  pub wide : length digits ≡ max_digits
  pub inside : first < max_digits
  pub small : left < 10 ^ suc first
  pub rest : decimal n ≡ decimal_within (suc first) left ++ drop (suc first) digits

-- none is found yet
pub found_none : (n : ℕ) (digits : List ℕ) → length digits ≡ max_digits → n < 2 ^ 64 → Found n digits 19 n
unfolding decimal
found_none n digits l h =
    let d : drop 20 digits ≡ [] = drop_of_length-le digits {i = 20} (omega arith) in
    record { wide = l; inside = omega arith; small = omega arith; rest = rw d (sym (append-nil (decimal_within 20 n))) }

-- while more than one digit is left, there is a place before this one
pub found_before : (n : ℕ) (digits : List ℕ) (first left : ℕ) → Found n digits first left → 9 < left → 0 < first
found_before n digits zero left f h = absurd (omega (arith, f.small))
found_before n digits (suc k) left f h = omega arith

-- one digit more
pub found_more : (n : ℕ) (digits : List ℕ) (first left : ℕ) → Found n digits first left → 9 < left → Found n (set digits first (digit (left % 10))) (first - 1) (left / 10)
found_more n digits zero left f h = absurd (omega (arith, f.small))
found_more n digits (suc k) left f h =
    let e : suc k - 1 ≡ k = omega arith in
    let d : drop (suc k) (set digits (suc k) (digit (left % 10))) ≡ digit (left % 10) ∷ drop (suc (suc k)) digits = drop_set digits (suc k) (digit (left % 10)) (omega (arith, f.wide, f.inside)) in
    rw e
    (record {
      wide = rw length-set f.wide;
      inside = omega (arith, f.inside);
      small = (div-lt_iff_lt-mul {k = 10} {x = left} {y = 10 ^ suc k} (omega arith)).1 (rw (pow-suc 10 (suc k)) at f.small);
      rest = f.rest ∙ rw (within_more (suc k) left h, d, append_assoc);
    })

-- the last one: now the places from `first` on are the number's text
pub found_all : (n : ℕ) (digits : List ℕ) (first left : ℕ) → Found n digits first left → left ≤ 9
    → take (max_digits - first) (drop first (set digits first (digit left))) ≡ decimal n
found_all n digits first left f h =
    take_all (max_digits - first) (drop first (set digits first (digit left))) (rw (length-drop, length-set, f.wide) (omega arith))
    ∙ drop_set digits first (digit left) (omega (arith, f.wide, f.inside))
    ∙ sym (f.rest ∙ rw (within_last first left h))
