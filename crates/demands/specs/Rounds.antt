-- What demand 2 says about runs: turns of parties, rounds of turns, a single run that has ended, and the number of turns that its steps take.
use Rattle.std.specs.Prelude.{ℕ, zero, suc, ◌+◌, ◌<◌, Bool, true, false, cond, ℤ}
use mathlib.Core.List.{List, [], ◌∷◌, ◌++◌, Memᴰ}
use Rattle.std.proofs.Math.Option.{Option, none, some}
use Rattle.parties.specs.Sets.{member}
use Rattle.program.specs.Check.{node_at}
use Rattle.nodes.specs.declared.Node.{Node}
use Rattle.rules.specs.Rules.{joint_meeting}
use Rattle.rules.specs.Single.{Setting, Single, going, ended, stopped, after}
use Rattle.rules.specs.declared.effects.Meeting.{Meeting}

-- every turn is a party's
abbrev pub Below : ℕ → List ℕ → Type 0
Below n [] = Unit {0}
Below n (P ∷ ts) = (P < n) × Below n ts

-- k rounds, in each of which every party below n has a turn or more, in any order; and any turns after them
pub data Rounds (n : ℕ) : ℕ → List ℕ → Type 0 where
  enough : {ts : List ℕ} → Rounds n zero ts
  round : {k : ℕ} {ts : List ℕ} (r : List ℕ) → ((P : ℕ) → P < n → Memᴰ P r) → Rounds n k ts → Rounds n (suc k) (r ++ ts)

-- the single run has ended, with a value
abbrev pub IsEnded : Single → Type 0
IsEnded (going t c b) = ⊥
IsEnded (ended t v b) = Unit {0}
IsEnded (stopped t refusal node b) = ⊥

abbrev pub is_meeting : Option Meeting → Bool
is_meeting none = false
is_meeting (some mt) = true

-- the nodes at which all of a mode step at once
abbrev pub is_joint : Node → Bool
is_joint e = is_meeting (joint_meeting e)

-- whether party P takes part in the next step of the single run, and whether that step is a joint one
abbrev pub active : ℕ → Single → Bool
active P (going t c b) = member P c.mode
active P (ended t v b) = false
active P (stopped t refusal node b) = false

abbrev pub meets_at : Setting → Single → Bool
meets_at S (going t c b) = is_joint (node_at S.program c.node)
meets_at S (ended t v b) = false
meets_at S (stopped t refusal node b) = false

-- ---- the number of turns

-- the sum of f below n
unfoldable pub sum_below : ℕ → (ℕ → ℕ) → ℕ
sum_below zero f = 0
sum_below (suc n) f = f n + sum_below n f

-- how many of the numbers below n pass a test
abbrev pub how_many : ℕ → (ℕ → Bool) → ℕ
how_many n f = sum_below n (λ X. cond (f X) 1 0)

-- a joint step takes one turn, for all of its members; any other takes a turn of each; and a run that is over takes none
unfoldable pub turns_for : Setting → Single → ℕ
turns_for S s = cond (meets_at S s) 1 (how_many S.program.parties (λ P. active P s))

-- the turns that the first K steps of the single run take
unfoldable pub turns_of : Setting → (ℕ → List ℤ) → ℕ → ℕ
turns_of S inputs K = sum_below K (λ t. turns_for S (after S inputs t))
