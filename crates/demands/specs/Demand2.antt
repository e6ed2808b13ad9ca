-- Demand 2: "The single run and the joint run follow the rules step for step. For equal inputs and record room, if the single run ends after S steps,
-- every joint run that completes leaves each site the same record, and S rounds giving each site a turn complete it (where the turn list is
-- accepted)." That both follow the rules is their contracts, which are equations with `single_call` and `joint_call`.
use Rattle.std.specs.Prelude.{ℕ, ◌<◌, ◌≡◌, Bool, true, false, List, [], ◌∷◌, get_or}
use Rattle.program.specs.Check.{Program, good, checked}
use Rattle.records.specs.declared.events.Event.{Event}
use Rattle.records.specs.declared.events.Event.TheVariants.{Read, Wrote, Shared, Opened, Passed, Finished, Stopped}
use Rattle.rules.specs.Lent.{Lent, room_of, inputs_of}
use Rattle.rules.specs.Calls.{ended_after, complete, setting_of, single_call, joint_call}
use Rattle.invariants.specs.Accepted.{IsJointRun}
use Rattle.invariants.specs.InRange.{AllBytes, AllIntegers}
use Rattle.invariants.specs.Left.{record_of}
use Rattle.demands.specs.Rounds.{Rounds, turns_of}
use Rattle.demands.specs.Walked.{events_in}

-- a site has finished: its last event is kind 6
abbrev pub is_last : Event → Bool
is_last (Read i) = false
is_last (Wrote i) = false
is_last (Shared a q) = false
is_last (Opened q i) = false
is_last (Passed q) = false
is_last (Finished tag i l h) = true
is_last (Stopped refusal node) = false

abbrev pub has_finished : List Event → Bool
has_finished [] = false
has_finished (e ∷ []) = is_last e
has_finished (e ∷ f ∷ es) = has_finished (f ∷ es)

-- what is lent to a single run and to a joint run: equal program, counts, inputs and room, while the lent lengths may differ
pub record Equal (p : Program) (L L' : Lent) : Type 0 where
  pub checks : checked L.program ≡ good p
  pub program : L'.program ≡ L.program
  pub counts : L'.counts ≡ L.counts
  pub inputs : L'.inputs ≡ L.inputs
  pub room : room_of p.parties L' ≡ room_of p.parties L

-- the joint calls with the lent L' follow the single call with the lent L, which ended after some steps
pub record Follow (p : Program) (L L' : Lent) (budget steps : ℕ) : Type 0 where
  -- "every joint run that completes leaves each site the same record": the bytes and their number
  pub same_record : (ts : List ℕ) (turns : ℕ) → (joint_call L' ts).answer ≡ complete turns → (P : ℕ) → P < p.parties
      → record_of p.parties P (joint_call L' ts) ≡ record_of p.parties P (single_call L budget)
  pub same_length : (ts : List ℕ) (turns : ℕ) → (joint_call L' ts).answer ≡ complete turns → (P : ℕ) → P < p.parties
      → get_or (joint_call L' ts).lengths P 0 ≡ get_or (single_call L budget).lengths P 0
  -- "S rounds giving each site a turn complete it", and the count is "the number of turns at which the rules take a step": 1 for a joint step
  -- of the single run, the number of members for any other, in whatever order the turns came
  pub rounds : (ts : List ℕ) → IsJointRun (joint_call L' ts).answer → Rounds p.parties steps ts
      → (joint_call L' ts).answer ≡ complete (turns_of (setting_of p L) (inputs_of L) steps)
  pub count : (ts : List ℕ) (turns : ℕ) → (joint_call L' ts).answer ≡ complete turns → turns ≡ turns_of (setting_of p L) (inputs_of L) steps
  -- a site that has finished has the single run's record even where others have not (bytes are bytes and integers have 32 bits, as the types of
  -- the call's arguments say)
  pub finished : AllBytes L.program → AllIntegers L.inputs → (ts : List ℕ) → IsJointRun (joint_call L' ts).answer → (P : ℕ) → P < p.parties
      → has_finished (events_in (record_of p.parties P (joint_call L' ts))) ≡ true
      → record_of p.parties P (joint_call L' ts) ≡ record_of p.parties P (single_call L budget)

abbrev pub Demand2 : Type 0
Demand2 = (p : Program) (L L' : Lent) (budget steps : ℕ) → Equal p L L' → (single_call L budget).answer ≡ ended_after steps → Follow p L L' budget steps
