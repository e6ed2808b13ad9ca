-- What the check answers, in document 01's numbers.
use Rattle.std.specs.Prelude.{ℕ, List, length, Result, Ok, Err}
use Rattle.refusals.specs.Numbers.{bad_program}
use Rattle.program.specs.Check.{Checked, good, bad, checked}
use Rattle.program.specs.declared.check.Good.{Good}
use Rattle.program.specs.declared.check.BadRecord.{BadRecord}

pub data CheckAnswer : Type 0 where
  accepted : (parties nodes : ℕ) → CheckAnswer
  refused : (number place : ℕ) → CheckAnswer

abbrev pub answer_of : Checked → CheckAnswer
answer_of (good p) = accepted p.parties (length p.nodes)
answer_of (bad place) = refused bad_program place

-- what a program's check answers
unfoldable pub check_answer : List ℕ → CheckAnswer
check_answer p = answer_of (checked p)

-- what the code's answer says
abbrev pub told : Result Good BadRecord → CheckAnswer
told (Ok g) = accepted g.parties g.nodes
told (Err b) = refused bad_program b.place
