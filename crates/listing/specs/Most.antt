-- How long the lines are at most. Assumes nothing.
use Rattle.std.specs.Prelude.{ℕ, ◌+◌, ◌*◌, List, length}

-- a word of 5 characters, a number of at most 20 digits, a line feed
abbrev pub most_of_case : ℕ
most_of_case = 26

-- what is shown of one event or of a refusal: a space, a number, a mark, a number
abbrev pub most_of_marked : ℕ
most_of_marked = 42

-- an event takes 3 bytes or more, so 42 characters for it are at most 14 for each byte; then the word `walk`, a refusal and a line feed
abbrev pub most_of_walk : List ℕ → ℕ
most_of_walk xs = 47 + 14 * length xs

-- a word of at most 13 characters, a space, two digits for each byte of either record, a line feed
abbrev pub most_of_order : (xs ys : List ℕ) → ℕ
most_of_order xs ys = 15 + 2 * (length xs + length ys)
