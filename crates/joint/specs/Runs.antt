-- The joint run in the lent bytes, and what its answers say.
use Rattle.std.specs.Prelude.{◌≡◌, ℕ, ◌≤◌, ◌<◌, cond, List, ℤ, length, get_or, Result, Ok, Err}
use Rattle.program.specs.Check.{Program, good, checked}
use Rattle.refusals.specs.Numbers.{number_of}
use Rattle.records.specs.Events.{held_back}
use Rattle.rules.specs.Joint.{Sites, Turned, run_turns, start_all, all_finished, book_of}
use Rattle.rules.specs.Lent as Lent
use Rattle.rules.specs.Lent.{Lent, Left, inputs_of}
use Rattle.rules.specs.Calls.{JointAnswer, refused, complete, still_open}
use Rattle.ledger.specs.Ledger.{Holds}
use Rattle.meets.specs.Places.{setting_of, Given, Stands, InputsStand}
use Rattle.refusals.specs.declared.Refused.{Refused}
use Rattle.joint.specs.declared.runs.Answer.{Answer}
use Rattle.joint.specs.declared.runs.Answer.TheVariants as Answer'

-- what the code's answer says, in document 01's numbers
abbrev pub told : Result Answer Refused → JointAnswer
told (Err e) = refused (number_of e.refusal) e.place
told (Ok (Answer'.Complete turns)) = complete turns
told (Ok (Answer'.Open turns)) = still_open turns

-- each turn is of a party below n
abbrev pub AllBelow : ℕ → List ℕ → Type 0
AllBelow n ts = (j : ℕ) → j < length ts → get_or ts j 0 < n

-- all turns of the list ts, of which k count
pub record RunsTurns (bs : List ℕ) (nodes : ℕ) (ts : List ℕ) (n room : ℕ) (is : List ℤ) (end : List ℕ) (k : ℕ) (at bytes lengths work bytes' lengths' work' : List ℕ) : Type 0 where
  pub comes : (G : Given bs nodes room n) (J : Sites) → Stands G J bytes lengths work → InputsStand is end n at J
      → Stands G (run_turns (setting_of G.program room) ts J).sites bytes' lengths' work' × (k ≡ (run_turns (setting_of G.program room) ts J).count)

-- an answer a after some turns, with the books of n sites in the bytes and the lengths
pub record Finishes (a : Answer) (R n : ℕ) (t : Turned) (xs₀ ls₀ xs ls : List ℕ) : Type 0 where
  pub answer : told (Ok a) ≡ cond (all_finished n t.sites) (complete t.count) (still_open t.count)
  pub holds : Holds R n (λ P. book_of (t.sites P)) xs₀ ls₀ xs ls

-- the run of a good program, from its start
pub record Drives (bs : List ℕ) (n nodes room : ℕ) (counts : List ℕ) (is : List ℤ) (ts : List ℕ) (a : Answer) (xs ls xs' ls' : List ℕ) : Type 0 where
  pub comes : (p : Program) (L : Lent) → checked bs ≡ good p → p.parties ≡ n → length p.nodes ≡ nodes → L.counts ≡ counts → L.inputs ≡ is → held_back ≤ room
      → Finishes a room n (run_turns (setting_of p room) ts (start_all (setting_of p room) (inputs_of L))) xs ls xs' ls'

-- everything that a call leaves
abbrev pub Is : Left JointAnswer → Result Answer Refused → (rs ls w : List ℕ) → Type 0
Is left a rs ls w = Lent.Is left (told a) rs ls w
