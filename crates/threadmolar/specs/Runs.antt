-- What the two runs answer and leave.
use Rattle.std.specs.Prelude.{◌≡◌, ℕ, ◌<◌, List}
use Rattle.rules.specs.Lent.{Left}
use Rattle.rules.specs.Calls.{SingleAnswer, JointAnswer, refused, stopped_at, ended_after, budget_used, complete, still_open}
use Rattle.threadmolar.specs.Answers.{ENDED, BUDGET, COMPLETE, OPEN, place_limit, numbered}

-- ---- both runs

-- an answer is told: r is its number, and the place for the count, which held k, holds k'
pub record Told (number : ℕ) (count_left : ℕ → ℕ) (r k k' : ℕ) : Type 0 where
  pub number_is : r ≡ number
  pub count_is : k' ≡ count_left k

-- and the bytes rs, ls and w are what is left
pub record Runs {A : Type 0} (T : (r k k' : ℕ) → Type 0) (left : Left A) (r : ℕ) (rs ls w : List ℕ) (k k' : ℕ) : Type 0 where
  pub told : T r k k'
  pub records : rs ≡ left.records
  pub lengths : ls ≡ left.lengths
  pub work : w ≡ left.work

-- ---- the single run

-- the number of its answer: a stop has its node where a refusal has its place
unfoldable pub single_number : SingleAnswer → ℕ
single_number (refused number place) = numbered number place
single_number (stopped_at number node steps) = numbered number node
single_number (ended_after steps) = ENDED
single_number (budget_used steps) = BUDGET

-- what the place for the steps holds after it, given what it held
unfoldable pub steps_left : SingleAnswer → ℕ → ℕ
steps_left (refused number place) held = held
steps_left (stopped_at number node steps) held = steps
steps_left (ended_after steps) held = steps
steps_left (budget_used steps) held = steps

-- the number and the steps
abbrev pub SingleTold : SingleAnswer → (r k k' : ℕ) → Type 0
SingleTold a = Told (single_number a) (steps_left a)

-- the number, and everything that the call leaves
abbrev pub SingleRuns : Left SingleAnswer → (r : ℕ) → (rs ls w : List ℕ) → (k k' : ℕ) → Type 0
SingleRuns left = Runs (SingleTold left.answer) left

-- the place of a refusal fits the number
abbrev pub SingleFits : SingleAnswer → Type 0
SingleFits (refused number place) = place < place_limit
SingleFits (stopped_at number node steps) = Unit {0}
SingleFits (ended_after steps) = Unit {0}
SingleFits (budget_used steps) = Unit {0}

-- ---- the joint run

-- the number of its answer
unfoldable pub joint_number : JointAnswer → ℕ
joint_number (refused number place) = numbered number place
joint_number (complete turns) = COMPLETE
joint_number (still_open turns) = OPEN

-- what the place for the turns taken holds after it, given what it held
unfoldable pub taken_left : JointAnswer → ℕ → ℕ
taken_left (refused number place) held = held
taken_left (complete turns) held = turns
taken_left (still_open turns) held = turns

-- the number and the turns taken
abbrev pub JointTold : JointAnswer → (r k k' : ℕ) → Type 0
JointTold a = Told (joint_number a) (taken_left a)

-- the number, and everything that the call leaves
abbrev pub JointRuns : Left JointAnswer → (r : ℕ) → (rs ls w : List ℕ) → (k k' : ℕ) → Type 0
JointRuns left = Runs (JointTold left.answer) left

-- the place of a refusal fits the number
abbrev pub JointFits : JointAnswer → Type 0
JointFits (refused number place) = place < place_limit
JointFits (complete turns) = Unit {0}
JointFits (still_open turns) = Unit {0}
