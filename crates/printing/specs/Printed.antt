-- Document 01's worked example, printed: its program, counts, input and turns, by both runs, come to the very bytes of its output. Assumes nothing.
use Rattle.std.specs.Prelude.{◌≡◌, refl, [], ◌∷◌, ◌++◌, pos, replicate}
use Rattle.rules.specs.Lent.{Lent}
use Rattle.rules.specs.Calls.{single_call, joint_call}
use Rattle.rules.specs.Worked.{program, turns, single, joint}
use Rattle.text.specs.Text.{ascii, decimal_within, decimal, hex_digit, hex, spaced}
use Rattle.invariants.specs.Left.{record_of}
use Rattle.printing.specs.Lines.{one_number, two_numbers, party_line, party_lines, record_lines, after_single, single_lines, after_joint, joint_lines}

-- "counts 1 and 0, input 7", and what the program lends
pub example : Lent
example = record { program = program; counts = 1 ∷ 0 ∷ []; inputs = pos 7 ∷ []; records = replicate 1536 0; lengths = replicate 16 0; work = replicate 49152 0 }

-- "Output", with a budget of 100
pub printed : single_lines 2 (single_call example 100) ++ joint_lines 2 (joint_call example turns)
    ≡ ascii "single ended 6\n0 0107000000030002000401000700000006010700000001000000\n1 0300020005010006000000000000000000\njoint complete 9\n0 0107000000030002000401000700000006010700000001000000\n1 0300020005010006000000000000000000\n"
unfolding example single joint ascii decimal_within decimal hex_digit hex one_number two_numbers record_of spaced party_line party_lines record_lines after_single single_lines after_joint joint_lines
printed = refl
