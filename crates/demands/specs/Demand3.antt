-- Demand 3: "Two accepted joint runs of one program, equal record room, any turn orders, any inputs at the other sites: if one site's inputs are
-- equal, the values opened to it agree as far as both lists go, and neither of its records ends in refusal 11, then one of its two records is a
-- beginning of the other, byte for byte."
use Rattle.std.specs.Prelude.{ℕ, ◌<◌, ◌≡◌, List, ℤ}
use Rattle.program.specs.Check.{Program, good, checked}
use Rattle.rules.specs.Lent.{Lent, room_of, inputs_of}
use Rattle.rules.specs.Calls.{joint_call}
use Rattle.invariants.specs.Accepted.{IsJointRun}
use Rattle.invariants.specs.InRange.{AllBytes, AllIntegers}
use Rattle.invariants.specs.Left.{record_of}
use Rattle.demands.specs.Walked.{events_in}
use Rattle.demands.specs.Opened.{openings, EndsIn11, Agree}

-- the values opened to the site whose record this is
abbrev pub opened_in : List ℕ → List ℤ
opened_in bs = openings (events_in bs)

-- site P in two calls, with the lent L and L'
pub record Alike (p : Program) (P : ℕ) (L L' : Lent) (ts ts' : List ℕ) : Type 0 where
  -- bytes are bytes and integers have 32 bits, as the types of the call's arguments say
  pub bytes : AllBytes L.program
  pub integers : AllIntegers L.inputs
  pub integers' : AllIntegers L'.inputs
  -- one program, and P is one of its parties
  pub checks : checked L.program ≡ good p
  pub program : L'.program ≡ L.program
  pub party : P < p.parties
  -- both calls are accepted
  pub run : IsJointRun (joint_call L ts).answer
  pub run' : IsJointRun (joint_call L' ts').answer
  -- equal record room, and equal inputs at P
  pub room : room_of p.parties L' ≡ room_of p.parties L
  pub inputs : inputs_of L P ≡ inputs_of L' P
  -- the values opened to P agree as far as both lists go, and neither record ends in refusal 11
  pub opened : Agree (opened_in (record_of p.parties P (joint_call L ts))) (opened_in (record_of p.parties P (joint_call L' ts')))
  pub ends : EndsIn11 (events_in (record_of p.parties P (joint_call L ts))) → ⊥
  pub ends' : EndsIn11 (events_in (record_of p.parties P (joint_call L' ts'))) → ⊥

abbrev pub Demand3 : Type 0
Demand3 = (p : Program) (P : ℕ) (L L' : Lent) (ts ts' : List ℕ) → Alike p P L L' ts ts'
    → Agree (record_of p.parties P (joint_call L ts)) (record_of p.parties P (joint_call L' ts'))
