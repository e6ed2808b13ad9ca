-- What the lines are put from: what the answer's line tells, the records and the lengths; and how much they may be. Assumes nothing.
use Rattle.std.specs.Prelude.{ℕ, ◌+◌, ◌*◌, ◌/◌, ◌≤◌, ◌<◌, List, [], length, get_or}
use Rattle.limits.specs.Limits.{max_parties}
use Rattle.rules.specs.Lent.{Left}
use Rattle.rules.specs.Calls.{SingleAnswer, JointAnswer, refused, stopped_at, ended_after, budget_used, complete, still_open}
use Rattle.printing.specs.declared.lines.SingleLine.{SingleLine}
use Rattle.printing.specs.declared.lines.SingleLine.TheVariants as SingleLine'
use Rattle.printing.specs.declared.lines.JointLine.{JointLine}
use Rattle.printing.specs.declared.lines.JointLine.TheVariants as JointLine'

-- what a line says, in document 01's numbers
abbrev pub single_said : SingleLine → SingleAnswer
single_said (SingleLine'.Refused number place) = refused number place
single_said (SingleLine'.Stopped number node steps) = stopped_at number node steps
single_said (SingleLine'.Ended steps) = ended_after steps
single_said (SingleLine'.Budget steps) = budget_used steps

abbrev pub joint_said : JointLine → JointAnswer
joint_said (JointLine'.Refused number place) = refused number place
joint_said (JointLine'.Complete turns) = complete turns
joint_said (JointLine'.Open turns) = still_open turns

-- what a call leaves, as far as a line shows it: the answer, the records and the lengths, and no working area
abbrev pub shown : {A : Type 0} → A → (records lengths : List ℕ) → Left A
shown a records lengths = record { answer = a; records = records; lengths = lengths; work = [] }

-- the same where the answer's line is put already
abbrev pub unanswered : (records lengths : List ℕ) → Left Unit
unanswered = shown tt

abbrev pub single_shown : SingleLine → (records lengths : List ℕ) → Left SingleAnswer
single_shown line = shown (single_said line)

abbrev pub joint_shown : JointLine → (records lengths : List ℕ) → Left JointAnswer
joint_shown line = shown (joint_said line)

-- ---- how much there may be

-- the most bytes of records
abbrev pub max_records : ℕ
max_records = 8192

-- each of n parties has its length, and a record within its room
pub record Fit (n : ℕ) (records lengths : List ℕ) : Type 0 where
  pub few : n ≤ max_parties
  pub places : n ≤ length lengths
  pub inside : (P : ℕ) → P < n → get_or lengths P 0 ≤ length records / n
  pub small : length records ≤ max_records

-- after `refused` no record is shown
abbrev pub single_fits : SingleLine → (n : ℕ) → (records lengths : List ℕ) → Type 0
single_fits (SingleLine'.Refused number place) n records lengths = Unit
single_fits line n records lengths = Fit n records lengths

abbrev pub joint_fits : JointLine → (n : ℕ) → (records lengths : List ℕ) → Type 0
joint_fits (JointLine'.Refused number place) n records lengths = Unit
joint_fits line n records lengths = Fit n records lengths

-- ---- how long the lines may be

-- a party's line: a number of at most 20 digits, a space, two digits for each byte, a line feed
abbrev pub most_of_party : List ℕ → ℕ
most_of_party bs = 22 + 2 * length bs

abbrev pub most_of_records : ℕ
most_of_records = max_parties * 22 + 2 * max_records

-- the answer's line: a word of at most 15 characters, two numbers, a space, a line feed
abbrev pub most_of_answer : ℕ
most_of_answer = 57

-- all lines of one run
abbrev pub most_of_one : ℕ
most_of_one = most_of_answer + most_of_records
