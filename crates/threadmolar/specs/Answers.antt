-- The numbers that a call answers. The low byte is the answer: below 64 a refusal's number, with its place or its node above it; else one of these, with nothing above it.
use Rattle.std.specs.Prelude.{ℕ, ◌+◌, ◌*◌}

-- the check finds no bad record
abbrev pub GOOD : ℕ
GOOD = 64

-- "The single run also answers "ended" with its steps, or "budget""
abbrev pub ENDED : ℕ
ENDED = 65

abbrev pub BUDGET : ℕ
BUDGET = 66

-- "The run answers complete (all finished) or open"
abbrev pub COMPLETE : ℕ
COMPLETE = 67

abbrev pub OPEN : ℕ
OPEN = 68

-- "the event and what follows, or the end"
abbrev pub EVENT : ℕ
EVENT = 69

abbrev pub END : ℕ
END = 70

-- "first longer, second longer, equal or "neither""
abbrev pub FIRST_LONGER : ℕ
FIRST_LONGER = 71

abbrev pub SECOND_LONGER : ℕ
SECOND_LONGER = 72

abbrev pub EQUAL : ℕ
EQUAL = 73

abbrev pub NEITHER : ℕ
NEITHER = 74

-- a refusal with its place, or a stop with its node
abbrev pub numbered : (number place : ℕ) → ℕ
numbered number place = number + 256 * place

-- every place that a refusal names is below this
abbrev pub place_limit : ℕ
place_limit = 65536
