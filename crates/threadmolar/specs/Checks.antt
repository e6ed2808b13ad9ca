-- What the check of a program answers and leaves.
use Rattle.std.specs.Prelude.{◌≡◌, ℕ}
use Rattle.program.specs.Answer.{CheckAnswer, accepted, refused}
use Rattle.threadmolar.specs.Answers.{GOOD, numbered}

-- the number of the check's answer
unfoldable pub check_number : CheckAnswer → ℕ
check_number (accepted parties nodes) = GOOD
check_number (refused number place) = numbered number place

-- what the places for the parties and for the nodes hold after it, given what they held
unfoldable pub parties_left : CheckAnswer → ℕ → ℕ
parties_left (accepted parties nodes) held = parties
parties_left (refused number place) held = held

unfoldable pub nodes_left : CheckAnswer → ℕ → ℕ
nodes_left (accepted parties nodes) held = nodes
nodes_left (refused number place) held = held

-- the number, and everything that the call leaves
pub record Checks (a : CheckAnswer) (r n k n' k' : ℕ) : Type 0 where
  pub number : r ≡ check_number a
  pub parties : n' ≡ parties_left a n
  pub nodes : k' ≡ nodes_left a k
