-- What `rehearse` prints of what a call leaves (document 01, "The program `rehearse`"), in ASCII codes. Assumes nothing.
use Rattle.std.specs.Prelude.{ℕ, zero, suc, List, [], ◌++◌}
use Rattle.rules.specs.Lent.{Left}
use Rattle.rules.specs.Calls.{SingleAnswer, JointAnswer, refused, stopped_at, ended_after, budget_used, complete, still_open}
use Rattle.invariants.specs.Left.{record_of}
use Rattle.text.specs.Text.{ascii, decimal, spaced}

-- "Every line ends in a line feed, and numbers are decimal": a line of a word and one number, or two
unfoldable pub one_number : (word : List ℕ) → ℕ → List ℕ
one_number word x = word ++ (decimal x ++ ascii "\n")

unfoldable pub two_numbers : (word : List ℕ) → ℕ → ℕ → List ℕ
two_numbers word x y = word ++ (decimal x ++ one_number (ascii " ") y)

-- "one line per party, its number and its record in lower-case hex (a lone number when empty)"
unfoldable pub party_line : ℕ → List ℕ → List ℕ
party_line P bs = decimal P ++ (spaced bs ++ ascii "\n")

-- the lines of the parties below a number, in order
unfoldable pub party_lines : (records : ℕ → List ℕ) → ℕ → List ℕ
party_lines f zero = []
party_lines f (suc P) = party_lines f P ++ party_line P (f P)

unfoldable pub record_lines : {A : Type 0} → ℕ → Left A → List ℕ
record_lines n X = party_lines (λ P. record_of n P X) n

-- "a line `single ended S`, `single budget S`, `single stopped number node` or `single refused number place`", before the parties' lines; "none after `refused`"
unfoldable pub after_single : SingleAnswer → List ℕ → List ℕ
after_single (refused number place) ps = two_numbers (ascii "single refused ") number place
after_single (stopped_at number node steps) ps = two_numbers (ascii "single stopped ") number node ++ ps
after_single (ended_after steps) ps = one_number (ascii "single ended ") steps ++ ps
after_single (budget_used steps) ps = one_number (ascii "single budget ") steps ++ ps

unfoldable pub single_lines : (n : ℕ) → Left SingleAnswer → List ℕ
single_lines n X = after_single X.answer (record_lines n X)

-- "then the same for `joint complete T`, `joint open T` or `joint refused number place`"
unfoldable pub after_joint : JointAnswer → List ℕ → List ℕ
after_joint (refused number place) ps = two_numbers (ascii "joint refused ") number place
after_joint (complete turns) ps = one_number (ascii "joint complete ") turns ++ ps
after_joint (still_open turns) ps = one_number (ascii "joint open ") turns ++ ps

unfoldable pub joint_lines : (n : ℕ) → Left JointAnswer → List ℕ
joint_lines n X = after_joint X.answer (record_lines n X)
