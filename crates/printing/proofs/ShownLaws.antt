-- For a caller of `put_single` and `put_joint`: the lines are those of what the call leaves, and how long they are at most. Assumes nothing.
use mathlib.Core.Path.{◌≡◌}
use Prim.Native.Nat.{ℕ, ◌≤◌}
use mathlib.Core.List.{List}
use native.Mathlib.Omega.{arith}
use lib.ListN.{length}
use Rattle.rules.specs.Lent.{Left, Is}
use Rattle.rules.specs.Calls.{SingleAnswer, JointAnswer}
use Rattle.text.specs.Text.{ascii}
use Rattle.invariants.specs.Left.{record_of}
use Rattle.printing.specs.Lines.{one_number, two_numbers, record_lines, after_single, single_lines, after_joint, joint_lines}
use Rattle.printing.specs.declared.lines.SingleLine.{SingleLine}
use Rattle.printing.specs.declared.lines.SingleLine.TheVariants as SingleLine'
use Rattle.printing.specs.declared.lines.JointLine.{JointLine}
use Rattle.printing.specs.declared.lines.JointLine.TheVariants as JointLine'
use Rattle.printing.specs.Shown.{single_said, joint_said, single_shown, joint_shown, single_fits, joint_fits, most_of_one}
use Rattle.printing.proofs.LineLaws.{one_short, two_short}
use Rattle.printing.proofs.AnswerLaws.{after_short}

-- with X = single_call L budget: what `put_single` puts of a line that says the call's answer, and of the records and lengths, are the lines of what the call leaves
pub single_lines_lem : (n : ℕ) (X : Left SingleAnswer) (line : SingleLine) (rs ls w : List ℕ) → Is X (single_said line) rs ls w → single_lines n (single_shown line rs ls) ≡ single_lines n X
unfolding single_lines record_lines record_of
single_lines_lem n X line rs ls w i = rw (i.answer, i.records, i.lengths)

pub joint_lines_lem : (n : ℕ) (X : Left JointAnswer) (line : JointLine) (rs ls w : List ℕ) → Is X (joint_said line) rs ls w → joint_lines n (joint_shown line rs ls) ≡ joint_lines n X
unfolding joint_lines record_lines record_of
joint_lines_lem n X line rs ls w i = rw (i.answer, i.records, i.lengths)

-- how long the lines of one run are at most
pub single_short : (n : ℕ) (line : SingleLine) (rs ls : List ℕ) → single_fits line n rs ls → length (single_lines n (single_shown line rs ls)) ≤ most_of_one
unfolding single_lines after_single ascii
single_short n (SingleLine'.Refused number place) rs ls f = omega (arith, two_short (ascii "single refused ") number place)
single_short n (SingleLine'.Stopped number node steps) rs ls f = after_short _ n rs ls (two_numbers (ascii "single stopped ") number node) (two_short (ascii "single stopped ") number node) f
single_short n (SingleLine'.Ended steps) rs ls f = after_short _ n rs ls (one_number (ascii "single ended ") steps) (omega (arith, one_short (ascii "single ended ") steps)) f
single_short n (SingleLine'.Budget steps) rs ls f = after_short _ n rs ls (one_number (ascii "single budget ") steps) (omega (arith, one_short (ascii "single budget ") steps)) f

pub joint_short : (n : ℕ) (line : JointLine) (rs ls : List ℕ) → joint_fits line n rs ls → length (joint_lines n (joint_shown line rs ls)) ≤ most_of_one
unfolding joint_lines after_joint ascii
joint_short n (JointLine'.Refused number place) rs ls f = omega (arith, two_short (ascii "joint refused ") number place)
joint_short n (JointLine'.Complete turns) rs ls f = after_short _ n rs ls (one_number (ascii "joint complete ") turns) (omega (arith, one_short (ascii "joint complete ") turns)) f
joint_short n (JointLine'.Open turns) rs ls f = after_short _ n rs ls (one_number (ascii "joint open ") turns) (omega (arith, one_short (ascii "joint open ") turns)) f
