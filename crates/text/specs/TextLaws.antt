-- How long a text is, and texts put one after another. Assumes nothing.
use Rattle.std.specs.Prelude.{◌≡◌, refl, ℕ, zero, suc, ◌+◌, ◌*◌, ◌/◌, ◌%◌, ◌≤◌, Bool, true, false, cond, List, [], ◌∷◌, ◌++◌, ltb, length, drop, take}
use Rattle.std.proofs.Common.{ap, ◌∙◌, arith, length-append}
use Rattle.std.proofs.Math.Seq.{length-sets, take-append_seam}
use Rattle.std.proofs.lemmas.List.Edits.{sets-eq}
use Rattle.stretches.proofs.StretchLaws.{sets_append}
use Rattle.text.specs.Text.{ascii, digit, decimal_within, max_digits, decimal, hex_digit, hex, spaced, Puts}

-- ---- lengths
within_short : (k n : ℕ) → length (decimal_within k n) ≤ k
unfolding decimal_within
within_short zero n = omega arith
within_short (suc k) n = go (ltb n 10) (within_short k (n / 10))
  where
    go : (t : Bool) → length (decimal_within k (n / 10)) ≤ k → length (cond t (digit n ∷ []) (decimal_within k (n / 10) ++ (digit (n % 10) ∷ []))) ≤ suc k
    go true h = omega arith
    go false h = rw length-append (omega arith)

-- a number's text has at most 20 characters
pub decimal_short : (n : ℕ) → length (decimal n) ≤ max_digits
unfolding decimal
decimal_short n = within_short max_digits n

-- two characters for each byte
pub hex_length : (bs : List ℕ) → length (hex bs) ≡ 2 * length bs
unfolding hex
hex_length [] = refl
hex_length (b ∷ bs) = omega (arith, hex_length bs)

pub hex_append : (xs ys : List ℕ) → hex (xs ++ ys) ≡ hex xs ++ hex ys
unfolding hex
hex_append [] ys = refl
hex_append (x ∷ xs) ys = ap (λ (l : List ℕ). hex_digit (x / 16) ∷ hex_digit (x % 16) ∷ l) (hex_append xs ys)

pub spaced_short : (bs : List ℕ) → length (spaced bs) ≤ 1 + 2 * length bs
unfolding spaced ascii
spaced_short [] = omega arith
spaced_short (b ∷ bs) = omega (arith, hex_length (b ∷ bs))

pub spaced_none : (bs : List ℕ) → length bs ≡ 0 → spaced bs ≡ []
unfolding spaced
spaced_none [] h = refl
spaced_none (b ∷ bs) h = absurd (omega arith)

pub spaced_some : (bs : List ℕ) → (length bs ≡ 0 → ⊥) → spaced bs ≡ ascii " " ++ hex bs
unfolding spaced
spaced_some [] h = absurd (h refl)
spaced_some (b ∷ bs) h = refl

-- ---- examples: the least and the greatest number of 64 bits, and two bytes
pub zero_shown : decimal 0 ≡ ascii "0"
unfolding decimal decimal_within ascii
zero_shown = refl

pub greatest_shown : decimal 18446744073709551615 ≡ ascii "18446744073709551615"
unfolding decimal decimal_within ascii
greatest_shown = refl

pub bytes_shown : hex (15 ∷ 160 ∷ []) ≡ ascii "0fa0"
unfolding hex hex_digit ascii
bytes_shown = refl

-- ---- texts put at a place

-- a call that puts a text leaves the bytes as many as they were
pub puts_length : {s x y : List ℕ} {a b : ℕ} → Puts s a b x y → length y ≡ length x
puts_length p = ap length p.bytes ∙ simp length-sets

pub puts_nothing : {x : List ℕ} {a : ℕ} → Puts [] a a x x
puts_nothing = record { end = omega arith; bytes = refl }

-- two texts put one after the other are one text
pub puts_then : {s t x y z : List ℕ} {a b c : ℕ} → Puts s a b x y → Puts t b c y z → Puts (s ++ t) a c x z
puts_then {s} {t} {x} {y} {z} {a} {b} {c} p q =
    record {
      end = rw length-append (omega (arith, p.end, q.end));
      bytes = q.bytes ∙ rw (p.bytes, p.end, sets_append s t x a);
    }

-- a text put at the start is what the bytes begin with, as far as the place after it
pub puts_first : (s x y : List ℕ) (r : ℕ) → Puts s 0 r x y → r ≤ length y → take r y ≡ s
puts_first s x y r p within =
    let long : 0 + length s ≤ length x = omega (arith, p.end, ap length p.bytes, length-sets {A = ℕ}) in
    let end : r ≡ length s = omega (arith, p.end) in
    rw (end, p.bytes, sets-eq s x 0 long)
    (take-append_seam s (drop (0 + length s) x))
