-- All that `rehearse` prints for an input: `bad input`, or the lines of the single run and then those of the joint run.
use Rattle.std.specs.Prelude.{ℕ, List, ◌++◌, ℤ, replicate, Option, Some, None}
use Rattle.program.specs.Answer.{CheckAnswer, accepted, refused, check_answer}
use Rattle.rules.specs.Lent.{Lent}
use Rattle.rules.specs.Calls.{single_call, joint_call}
use Rattle.text.specs.Text.{ascii}
use Rattle.cases.specs.Input.{Case, parsed}
use Rattle.cases.specs.declared.lending.Lending.{Lending}
use Rattle.printing.specs.Lines.{single_lines, joint_lines}

-- the parties of a good program; of a bad one no line is printed
abbrev pub parties_of : CheckAnswer → ℕ
parties_of (accepted n nodes) = n
parties_of (refused number place) = 0

-- what is lent to a run: so many record bytes, length places and working bytes. What they hold at entry shows nowhere: "the record bytes are 0xAA,
-- the length places 7 and the working bytes 0x55, so that a run that trusts what it finds there shows"
unfoldable pub filled : (program counts : List ℕ) → (inputs : List ℤ) → (records lengths work : ℕ) → Lent
filled program counts inputs records lengths work =
    record {
      program = program;
      counts = counts;
      inputs = inputs;
      records = replicate records 0xaa;
      lengths = replicate lengths 7;
      work = replicate work 0x55;
    }

-- the lines of each run of a program in what is lent
unfoldable pub single_printed : Lent → (budget : ℕ) → List ℕ
single_printed L budget = single_lines (parties_of (check_answer L.program)) (single_call L budget)

unfoldable pub joint_printed : Lent → (turns : List ℕ) → List ℕ
joint_printed L turns = joint_lines (parties_of (check_answer L.program)) (joint_call L turns)

unfoldable pub shown_case : Lending → Case → List ℕ
shown_case l c =
    single_printed (filled c.program c.counts c.inputs l.records l.lengths l.single) c.budget
    ++ joint_printed (filled c.program c.counts c.inputs l.records l.lengths l.joint) c.turns

abbrev pub shown_of : Lending → Option Case → List ℕ
shown_of l None = ascii "bad input\n"
shown_of l (Some c) = shown_case l c

unfoldable pub shown : Lending → List ℕ → List ℕ
shown l bs = shown_of l (parsed bs)
