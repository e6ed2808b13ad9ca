-- The premises of the demands can be met by a program with SHARE and REVEAL, document 01's worked example, and the records of its two sites differ.
use Rattle.std.specs.Prelude.{ℕ, ◌≡◌, List, [], ◌∷◌, pos, length}
use Rattle.program.specs.Check.{Program}
use Rattle.nodes.specs.declared.Node.TheVariants.{READ, SHARE, REVEAL, LET, PAR}
use Rattle.refusals.specs.Numbers.{too_little_lent}
use Rattle.rules.specs.Lent.{Lent}
use Rattle.rules.specs.Calls.{ended_after, refused, complete, still_open, single_call, joint_call}
use Rattle.rules.specs.Worked.{lent, turns}
use Rattle.invariants.specs.Accepted.{IsJointRun}
use Rattle.invariants.specs.Left.{record_of}
use Rattle.demands.specs.Rounds.{Rounds}
use Rattle.demands.specs.Opened.{Agree}
use Rattle.demands.specs.Demand2.{Equal}
use Rattle.demands.specs.Demand3.{opened_in, Alike}

-- the nodes that the check finds in it
unfoldable pub example : Program
example =
    record {
      parties = 2;
      nodes = READ
          ∷ PAR (record { bits = 1 }) 0
          ∷ SHARE (record { index = 0 }) (record { bits = 2 }) (record { index = 0 })
          ∷ REVEAL (record { bits = 1 }) (record { index = 1 })
          ∷ LET (record { index = 1 }) 2 3
          ∷ LET (record { index = 0 }) 1 4
          ∷ [];
    }

-- as little as a single run takes; more of everything, but the same room of 26 for each record; and 8 for 7 at party 0
unfoldable pub least : Lent
least = lent (pos 7) 52 2 16384

unfoldable pub more : Lent
more = lent (pos 7) 53 3 40000

unfoldable pub other : Lent
other = lent (pos 8) 52 2 32768

-- a length place too few
unfoldable pub short : Lent
short = lent (pos 7) 52 1 32768

-- six rounds, of which the worked example's turns are too few; and turns that end before the REVEAL
abbrev pub in_rounds : List ℕ
in_rounds = 0 ∷ 1 ∷ 1 ∷ 0 ∷ 0 ∷ 1 ∷ 1 ∷ 0 ∷ 0 ∷ 1 ∷ 1 ∷ 0 ∷ []

abbrev pub early : List ℕ
early = 1 ∷ 1 ∷ 1 ∷ 0 ∷ 0 ∷ 0 ∷ 0 ∷ 0 ∷ []

pub record NotEmpty : Type 0 where
  -- ---- demand 1: a call that is refused; those below are not
  pub refuses : (joint_call short turns).answer ≡ refused too_little_lent 0
  -- ---- demand 2: its premises
  pub equal : Equal example least more
  pub ends : (single_call least 100).answer ≡ ended_after 6
  pub rounds : Rounds 2 6 in_rounds
  pub accepted : IsJointRun (joint_call more in_rounds).answer
  -- so it gives the answer; turns that are fewer can do as well; and the sites' records are not one record
  pub rounds_answer : (joint_call more in_rounds).answer ≡ complete 9
  pub first_answer : (joint_call more turns).answer ≡ complete 9
  pub sites_differ : record_of 2 0 (joint_call more in_rounds) ≡ record_of 2 1 (joint_call more in_rounds) → ⊥
  -- ---- demand 3: its premises at site 1, with other inputs at site 0 and other turns, one run complete and one not
  pub alike_1 : Alike example 1 more other turns early
  pub early_answer : (joint_call other early).answer ≡ still_open 8
  -- so one record begins the other, and it is the shorter one
  pub agree_1 : Agree (record_of 2 1 (joint_call more turns)) (record_of 2 1 (joint_call other early))
  pub length_first : length (record_of 2 1 (joint_call more turns)) ≡ 17
  pub length_early : length (record_of 2 1 (joint_call other early)) ≡ 4
  -- which is not so at site 0, whose inputs differ
  pub apart_0 : Agree (record_of 2 0 (joint_call more turns)) (record_of 2 0 (joint_call other early)) → ⊥
  -- its premises at site 0, to which a value is opened, with equal inputs and other turns
  pub alike_0 : Alike example 0 more more turns in_rounds
  pub opened_first : opened_in (record_of 2 0 (joint_call more turns)) ≡ pos 7 ∷ []
  pub opened_rounds : opened_in (record_of 2 0 (joint_call more in_rounds)) ≡ pos 7 ∷ []
