-- Bytes put in hexadecimal, one by one. Assumes nothing.
use mathlib.Core.Path.{◌≡◌, refl}
use Prim.Native.Nat.{ℕ, ◌+◌, ◌/◌, ◌%◌, ◌≤◌, ◌<◌}
use mathlib.Core.List.{List, [], ◌∷◌}
use native.Mathlib.Numerals.{add-one}
use native.Mathlib.Omega.{arith}
use lib.ListN.{length, get_or, set, take}
use lib.Seq.{length-take-le, take-suc}
use Rattle.text.specs.Text.{ascii, hex_digit, hex, spaced, Puts}
use Rattle.text.specs.TextLaws.{hex_length, hex_append, puts_then, spaced_some}

-- there is room for the next two digits
pub hex_room : (bs x y : List ℕ) (a to i : ℕ) → i < length bs → a + length (hex bs) ≤ length x → Puts (hex (take i bs)) a to x y → to + 2 ≤ length x
hex_room bs x y a to i h room p = omega (arith, p.end, hex_length bs, hex_length (take i bs), length-take-le i bs (omega arith))

-- one byte more
pub hex_more : (bs x y : List ℕ) (a to i : ℕ) → i < length bs → Puts (hex (take i bs)) a to x y
    → Puts (hex (take (i + 1) bs)) a (to + 2) x (set (set y to (hex_digit (get_or bs i 0 / 16))) (to + 1) (hex_digit (get_or bs i 0 % 16)))
unfolding hex
hex_more bs x y a to i h p = rw (add-one i, take-suc bs i 0, hex_append (take i bs) (get_or bs i 0 ∷ [])) (puts_then p (record { end = refl; bytes = rw add-one }))

-- bytes after a space
pub spaced_bytes : (bs x y z : List ℕ) (a b c : ℕ) → (length bs ≡ 0 → ⊥) → Puts (32 ∷ []) a b x y → Puts (hex bs) b c y z → Puts (spaced bs) a c x z
unfolding ascii
spaced_bytes bs x y z a b c h p q = rw (spaced_some bs h) (puts_then p q)
