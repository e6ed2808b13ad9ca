-- Numbers and bytes as text, in ASCII codes, and text put at a place of lent bytes. Assumes nothing.
use Rattle.std.specs.Prelude.{◌≡◌, ℕ, zero, suc, ◌+◌, ◌/◌, ◌%◌, cond, List, [], ◌∷◌, ◌++◌, ltb, length}
use Prim.Native.Char.{code}
use Prim.Native.String.{String}
use Prim.Native.String as String'
use Rattle.std.proofs.lemmas.List.Edits.{sets}

-- a quoted text in ASCII codes
unfoldable pub ascii : String → List ℕ
ascii String'.[] = []
ascii (String'.◌∷◌ c s) = code c ∷ ascii s

-- the character of a decimal digit: 48 is '0'
abbrev pub digit : ℕ → ℕ
digit n = 48 + n

-- a number in at most `places` decimal digits, the most significant first, with no leading zero
unfoldable pub decimal_within : (places : ℕ) → ℕ → List ℕ
decimal_within zero n = []
decimal_within (suc k) n = cond (ltb n 10) (digit n ∷ []) (decimal_within k (n / 10) ++ (digit (n % 10) ∷ []))

-- a number below 2^64 has at most 20 decimal digits
abbrev pub max_digits : ℕ
max_digits = 20

unfoldable pub decimal : ℕ → List ℕ
decimal n = decimal_within max_digits n

-- the character of a hexadecimal digit: 97 is 'a'
unfoldable pub hex_digit : ℕ → ℕ
hex_digit n = cond (ltb n 10) (digit n) (87 + n)

-- bytes in lower-case hexadecimal, two digits each
unfoldable pub hex : List ℕ → List ℕ
hex [] = []
hex (b ∷ bs) = hex_digit (b / 16) ∷ hex_digit (b % 16) ∷ hex bs

-- bytes in hexadecimal after a space; nothing where there are none
unfoldable pub spaced : List ℕ → List ℕ
spaced [] = []
spaced (b ∷ bs) = ascii " " ++ hex (b ∷ bs)

-- what a call that puts a text at the place `at` of the bytes out leaves: the place after the text, and out', which is out but for the text
pub record Puts (text : List ℕ) (at r : ℕ) (out out' : List ℕ) : Type 0 where
  pub end : r ≡ at + length text
  pub bytes : out' ≡ sets out at text
