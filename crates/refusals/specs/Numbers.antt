-- Document 01, "Refusal numbers, in the order tried".
use Rattle.std.specs.Prelude.{ℕ}
use Rattle.refusals.specs.declared.Refusal.{Refusal}
use Rattle.refusals.specs.declared.Refusal.TheVariants.{BadProgram, BadCounts, BadTurn, TooLittleLent, NameUnbound, WrongValue, WrongMode, NoInput, NoRoom, TooDeep, Disagreement, NotAnEvent}

-- "bad program"
abbrev pub bad_program : ℕ
bad_program = 1

-- "the input counts are not n in number, or don't sum to the number of input integers"
abbrev pub bad_counts : ℕ
bad_counts = 2

-- "a turn not below n, or past the 65,535th"
abbrev pub bad_turn : ℕ
bad_turn = 3

-- "R below 10, fewer than n length places, or less working area than stated"
abbrev pub too_little_lent : ℕ
too_little_lent = 4

-- "a name is unbound"
abbrev pub name_unbound : ℕ
name_unbound = 5

-- "a value of the wrong sort or at the wrong set"
abbrev pub wrong_value : ℕ
wrong_value = 6

-- "the mode doesn't fit"
abbrev pub wrong_mode : ℕ
wrong_mode = 7

-- "that party's input is used up"
abbrev pub no_input : ℕ
no_input = 8

-- "no record room for a member's event; in the joint run, for the site's own"
abbrev pub no_room : ℕ
no_room = 9

-- "a LET with 64 frames down already"
abbrev pub too_deep : ℕ
too_deep = 10

-- "holders disagree at a joint step"
abbrev pub disagreement : ℕ
disagreement = 11

-- "not an event (record walk only)"
abbrev pub not_an_event : ℕ
not_an_event = 12

-- a refusal's number
abbrev pub number_of : Refusal → ℕ
number_of BadProgram = bad_program
number_of BadCounts = bad_counts
number_of BadTurn = bad_turn
number_of TooLittleLent = too_little_lent
number_of NameUnbound = name_unbound
number_of WrongValue = wrong_value
number_of WrongMode = wrong_mode
number_of NoInput = no_input
number_of NoRoom = no_room
number_of TooDeep = too_deep
number_of Disagreement = disagreement
number_of NotAnEvent = not_an_event
