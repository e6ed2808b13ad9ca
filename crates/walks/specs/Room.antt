-- How long a record may be, and how much is lent for its lines. Assumes nothing.
use Rattle.std.specs.Prelude.{ℕ, ◌≤◌, Option, IfSome}

-- a length is two bytes
abbrev pub max_record : ℕ
max_record = 65535

-- enough for the number of a case and the walk of a record
abbrev pub room_out : ℕ
room_out = 1048576

abbrev pub Fits : Option ℕ → Type 0
Fits got = IfSome got (λ n. n ≤ max_record)
