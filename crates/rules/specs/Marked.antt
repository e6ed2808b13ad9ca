-- The marked cases [P] of document 01, "Examples to hold against it", and its worked example by both runs, in one table. Assumes nothing.
use Rattle.std.specs.Prelude.{ℕ, ◌+◌, ◌-◌, ◌≡◌, refl, List, [], ◌∷◌, ◌++◌, pos, negsuc, take, replicate}
use Rattle.numbers.specs.Integers.{operate}
use Rattle.numbers.specs.declared.integers.Operation.TheVariants.{Add, Sub, Mul, Lt}
use Rattle.parties.specs.declared.sets.PartySet.{PartySet}
use Rattle.values.specs.Values.{restrict}
use Rattle.values.specs.declared.value.Value.TheVariants.{Nothing, Clear, Share}
use Rattle.nodes.specs.declared.Node.TheVariants.{SHARE}
use Rattle.refusals.specs.declared.Refusal.TheVariants.{WrongMode}
use Rattle.rules.specs.Names.{none_bound, bind}
use Rattle.rules.specs.Lent.{Left}
use Rattle.rules.specs.Calls.{SingleAnswer, stopped_at, ended_after, budget_used, JointAnswer, complete, still_open}
use Rattle.rules.specs.Worked as Worked
use Rattle.rules.specs.Worked.{lent, turns, record0, record1, ruled}
use Rattle.rules.specs.declared.effects.View.TheVariants.{Whole}
use Rattle.rules.specs.declared.effects.Meeting.TheVariants.{Sharing}
use Rattle.rules.specs.declared.effects.Offer.TheVariants.{Secret}
use Rattle.rules.specs.declared.effects.Effect.{Effect}
use Rattle.rules.specs.declared.effects.Effect.TheVariants.{Refuse, Meets}

-- a set by its bits
abbrev pub set : ℕ → PartySet
set n = record { bits = n }

-- what is left where a run wrote a and b into two rooms R: bytes past a record and the third length place stay, the working area is zero
pub leaves : {A : Type 0} → ℕ → A → (a b : List ℕ) (m n : ℕ) → Left A
leaves R answer a b m n =
    record {
      answer = answer;
      records = (a ++ replicate (R - m) 170) ++ (b ++ replicate (R - n) 170);
      lengths = m ∷ n ∷ 9 ∷ [];
      work = replicate 32768 0;
    }

-- the example's calls with room R for each of the two records
abbrev pub single : ℕ → ℕ → Left SingleAnswer
single R budget = Worked.single (lent (pos 7) (R + R) 3 32768) budget

abbrev pub joint : ℕ → List ℕ → Left JointAnswer
joint R ts = Worked.joint (lent (pos 7) (R + R) 3 32768) ts

-- SHARE with a=0 and q={1} of a name that is bound to v, in the mode m
abbrev pub share : PartySet → Effect
share m = ruled Whole (SHARE (record { index = 0 }) (set 2) (record { index = 0 })) m (bind (record { index = 0 }) (Clear (pos 7) (set 1)) none_bound)

pub record Marked : Type 0 where
  -- 2147483647+1 = -2147483648
  pub sum_above : operate Add (pos 2147483647) (pos 1) ≡ negsuc 2147483647
  -- -2147483648−1 = 2147483647
  pub difference_below : operate Sub (negsuc 2147483647) (pos 1) ≡ pos 2147483647
  -- 65536×65536 = 0
  pub product_zero : operate Mul (pos 65536) (pos 65536) ≡ pos 0
  -- -1×-2147483648 = -2147483648
  pub product_least : operate Mul (negsuc 0) (negsuc 2147483647) ≡ negsuc 2147483647
  -- lt of -2147483648 and 1 is 0
  pub less_wrapped : operate Lt (negsuc 2147483647) (pos 1) ≡ pos 0
  -- 7 at {0,1} restricted to {1} is 7 at {1}
  pub kept : restrict (set 2) (Clear (pos 7) (set 3)) ≡ Clear (pos 7) (set 2)
  -- 7 at {0} restricted to {1} is nothing
  pub lost : restrict (set 2) (Clear (pos 7) (set 1)) ≡ Nothing
  -- a share held by {0,1} restricted to {0} keeps holders {0,1}
  pub holders_kept : restrict (set 1) (Share (pos 7) (set 3) (set 3)) ≡ Share (pos 7) (set 3) (set 1)
  -- SHARE with a=0, q={1} fits mode {0,1} and not {0,1,2}
  pub share_fits : share (set 3) ≡ Meets (Sharing (record { index = 0 }) (set 2)) (Secret (pos 7) (set 1))
  pub share_fits_not : share (set 7) ≡ Refuse WrongMode
  -- R = 26 suffices; with R = 25 the single run stops with 9 at node 3
  pub room_26 : single 26 100 ≡ leaves 26 (ended_after 6) record0 record1 26 17
  pub room_25 : single 25 100 ≡ leaves 25 (stopped_at 9 3 5) (take 9 record0) (take 4 record1) 9 4
  -- budget 6 ends, 5 doesn't
  pub budget_6 : single 768 6 ≡ leaves 768 (ended_after 6) record0 record1 26 17
  pub budget_5 : single 768 5 ≡ leaves 768 (budget_used 5) (take 9 record0) (take 4 record1) 9 4
  -- the printed output: single ended 6, joint complete 9, under both turn lists, with the same records; no turns: open, 0
  pub ends : single 768 100 ≡ leaves 768 (ended_after 6) record0 record1 26 17
  pub turns_first : joint 768 turns ≡ leaves 768 (complete 9) record0 record1 26 17
  pub turns_second : joint 768 (1 ∷ 1 ∷ 1 ∷ 0 ∷ 0 ∷ 0 ∷ 0 ∷ 0 ∷ 1 ∷ []) ≡ leaves 768 (complete 9) record0 record1 26 17
  pub turns_none : joint 768 [] ≡ leaves 768 (still_open 0) [] [] 0 0

pub marked : Marked
unfolding leaves Worked.single Worked.joint
marked =
    record {
      sum_above = refl;
      difference_below = refl;
      product_zero = refl;
      product_least = refl;
      less_wrapped = refl;
      kept = refl;
      lost = refl;
      holders_kept = refl;
      share_fits = refl;
      share_fits_not = refl;
      room_26 = refl;
      room_25 = refl;
      budget_6 = refl;
      budget_5 = refl;
      ends = refl;
      turns_first = refl;
      turns_second = refl;
      turns_none = refl;
    }
