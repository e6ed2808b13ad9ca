-- "Two-byte and four-byte numbers are low byte first, integers in two's complement" (document 01, "Program bytes").
use Rattle.std.specs.Prelude.{◌≡◌, ℕ, zero, suc, ◌+◌, ◌*◌, ◌/◌, ◌%◌, ◌^◌, ◌<◌, List, [], ◌∷◌, get_or, ℤ}
use Rattle.numbers.specs.Integers.{residue, signed}

-- the k bytes of the number n
unfoldable pub low_first : ℕ → ℕ → List ℕ
low_first zero n = []
low_first (suc k) n = n % 256 ∷ low_first k (n / 256)

-- the number whose k bytes stand at i
unfoldable pub number_at : ℕ → List ℕ → ℕ → ℕ
number_at zero xs i = 0
number_at (suc k) xs i = get_or xs i 0 + 256 * number_at k xs (i + 1)

-- the first k digits of n to the base 256 are the bytes at i
abbrev pub Spells : ℕ → List ℕ → ℕ → ℕ → Type 0
Spells k xs i n = (j : ℕ) → j < k → n / 256 ^ j % 256 ≡ get_or xs (i + j) 0

-- the four bytes of an integer, and the integer whose bytes stand at i
abbrev pub integer_bytes : ℤ → List ℕ
integer_bytes z = low_first 4 (residue z)

abbrev pub integer_at : List ℕ → ℕ → ℤ
integer_at xs i = signed (number_at 4 xs i)
