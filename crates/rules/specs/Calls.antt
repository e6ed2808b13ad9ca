-- The two calls, from everything lent to everything left: refusals 1 to 4 in their order, or the run.
use Rattle.std.specs.Prelude.{ℕ, ◌+◌, ◌≡◌, true, ◌&&◌, cond, List, [], ◌∷◌, ltb}
use Rattle.std.proofs.Math.Option.{Option, none, some}
use Rattle.program.specs.Check.{Program, Checked, good, bad, checked}
use Rattle.refusals.specs.Numbers.{bad_program, bad_counts, bad_turn, too_little_lent}
use Rattle.rules.specs.Lent.{Lent, Left, unchanged, room_of, inputs_of, counts_fit, enough_lent, left_by}
use Rattle.rules.specs.Single.{Single, going, ended, stopped, Setting, after}
use Rattle.rules.specs.Joint.{Turned, run_turns, start_all, all_finished, book_of}

abbrev pub setting_of : Program → Lent → Setting
setting_of p L = record { program = p; room = room_of p.parties L }

-- ---- both calls

-- what a call answers where it is refused, the working areas that it needs for n parties, the index of its first bad turn, and what its run leaves
pub record Call (A : Type 0) : Type 0 where
  pub refuse : (number place : ℕ) → A
  pub areas : (n : ℕ) → ℕ
  pub first_bad : (n : ℕ) → Option ℕ
  pub run : Program → Left A

abbrev pub unless_bad_turn : {A : Type 0} → Call A → Lent → Option ℕ → Left A → Left A
unless_bad_turn c L none left = left
unless_bad_turn c L (some index) left = unchanged L (c.refuse bad_turn index)

-- "1 to 4 refuse the call", in this order
unfoldable pub call_of : {A : Type 0} → Call A → Lent → Checked → Left A
call_of c L (bad place) = unchanged L (c.refuse bad_program place)
call_of c L (good p) =
    cond (counts_fit p.parties L)
    (unless_bad_turn c L (c.first_bad p.parties)
    (cond (enough_lent p.parties (c.areas p.parties) L) (c.run p) (unchanged L (c.refuse too_little_lent 0))))
    (unchanged L (c.refuse bad_counts 0))

-- none of them is met
pub record Accepted (areas : ℕ → ℕ) (first_bad : ℕ → Option ℕ) (L : Lent) : Type 0 where
  pub program : Program
  pub checks : checked L.program ≡ good program
  pub counts : counts_fit program.parties L ≡ true
  pub turns : first_bad program.parties ≡ none
  pub lent : enough_lent program.parties (areas program.parties) L ≡ true

-- ---- the single run

-- "5 to 10 stop the single run, which returns number, node and steps taken before that .. also answers "ended" with its steps, or "budget""
pub data SingleAnswer : Type 0 where
  refused : (number place : ℕ) → SingleAnswer
  stopped_at : (number node steps : ℕ) → SingleAnswer
  ended_after : (steps : ℕ) → SingleAnswer
  budget_used : (steps : ℕ) → SingleAnswer

unfoldable pub single_left : ℕ → Lent → Single → Left SingleAnswer
single_left n L (going t c b) = left_by n L (budget_used t) b
single_left n L (ended t v b) = left_by n L (ended_after t) b
single_left n L (stopped t refusal e b) = left_by n L (stopped_at refusal e t) b

unfoldable pub single_of : Lent → ℕ → Call SingleAnswer
single_of L budget =
    record {
      refuse = refused;
      areas = λ n. 1;
      first_bad = λ n. none;
      run = λ p. single_left p.parties L (after (setting_of p L) (inputs_of L) budget);
    }

unfoldable pub single_call : Lent → (budget : ℕ) → Left SingleAnswer
single_call L budget = call_of (single_of L budget) L (checked L.program)

-- ---- the joint run

-- "The run answers complete (all finished) or open, and the number of turns at which a site stepped or stopped"
pub data JointAnswer : Type 0 where
  refused : (number place : ℕ) → JointAnswer
  complete : (turns : ℕ) → JointAnswer
  still_open : (turns : ℕ) → JointAnswer

-- "a turn not below n, or past the 65,535th; the first such index"
abbrev pub max_turns : ℕ
max_turns = 65535

unfoldable pub bad_turn_from : (n index : ℕ) → List ℕ → Option ℕ
bad_turn_from n i [] = none
bad_turn_from n i (t ∷ ts) = cond (ltb t n && ltb i max_turns) (bad_turn_from n (i + 1) ts) (some i)

unfoldable pub joint_left : ℕ → Lent → Turned → Left JointAnswer
joint_left n L t = left_by n L (cond (all_finished n t.sites) (complete t.count) (still_open t.count)) (λ P. book_of (t.sites P))

unfoldable pub joint_of : Lent → List ℕ → Call JointAnswer
joint_of L turns =
    record {
      refuse = refused;
      areas = λ n. n;
      first_bad = λ n. bad_turn_from n 0 turns;
      run = λ p. joint_left p.parties L (run_turns (setting_of p L) turns (start_all (setting_of p L) (inputs_of L)));
    }

unfoldable pub joint_call : Lent → (turns : List ℕ) → Left JointAnswer
joint_call L turns = call_of (joint_of L turns) L (checked L.program)
