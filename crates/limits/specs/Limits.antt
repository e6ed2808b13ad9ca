-- The limits of document 01, each with the kind of thing that it limits.
use Rattle.std.specs.Prelude.{ℕ, ◌&&◌, cond, ltb, Option, Some, None}
use Rattle.limits.specs.declared.Party.{Party}
use Rattle.limits.specs.declared.Name.{Name}

-- "n from 1 to 16"
abbrev pub max_parties : ℕ
max_parties = 16

-- "Names x, y, z are 0 to 15."
abbrev pub max_names : ℕ
max_names = 16

-- "a LET with 64 frames down already"
abbrev pub max_frames : ℕ
max_frames = 64

-- "Party a is below n."
abbrev pub party_of : ℕ → ℕ → Option Party
party_of i n = cond (ltb i n && ltb i max_parties) (Some (record { index = i })) None

abbrev pub name_of : ℕ → Option Name
name_of x = cond (ltb x max_names) (Some (record { index = x })) None
