-- The single run in the lent bytes, and what its answers say.
use Rattle.std.specs.Prelude.{◌≡◌, ℕ, ◌≤◌, List, ℤ, length, Result, Ok, Err}
use Rattle.values.specs.declared.value.Value.{Value}
use Rattle.program.specs.Check.{Program, good, checked}
use Rattle.refusals.specs.Numbers.{number_of}
use Rattle.records.specs.Events.{held_back}
use Rattle.rules.specs.Books.{Books}
use Rattle.rules.specs.Moves.{Control}
use Rattle.rules.specs.Single.{Single, going, ended, stopped, run, after}
use Rattle.rules.specs.Lent as Lent
use Rattle.rules.specs.Lent.{Lent, Left, inputs_of}
use Rattle.rules.specs.Calls.{SingleAnswer, refused, stopped_at, ended_after, budget_used}
use Rattle.area.specs.Levels.{control_of}
use Rattle.table.specs.Table.{PlacesIn}
use Rattle.area.specs.declared.stand.Stand.{Stand}
use Rattle.ledger.specs.Ledger.{Holds}
use Rattle.single_step.specs.Steps.{Lists, Given, Stands}
use Rattle.refusals.specs.declared.Refused.{Refused}
use Rattle.single.specs.declared.runs.Answer.{Answer}
use Rattle.single.specs.declared.runs.Answer.TheVariants as Answer'

-- what the code's answer says, in document 01's numbers
abbrev pub told : Result Answer Refused → SingleAnswer
told (Err e) = refused (number_of e.refusal) e.place
told (Ok (Answer'.Stopped refusal node steps)) = stopped_at (number_of refusal) node steps
told (Ok (Answer'.Ended steps)) = ended_after steps
told (Ok (Answer'.Budget steps)) = budget_used steps

-- an answer a of a run that came to the state s, whose books the bytes and lengths hold
abbrev pub Finishes : Answer → (R n : ℕ) → (xs₀ ls₀ : List ℕ) → Single → (xs ls : List ℕ) → Type 0
Finishes (Answer'.Stopped r e k) R n xs₀ ls₀ s xs ls = (b : Books) × (s ≡ stopped k (number_of r) e b) × Holds R n b xs₀ ls₀ xs ls
Finishes (Answer'.Ended k) R n xs₀ ls₀ s xs ls = (v : Value) × (b : Books) × (s ≡ ended k v b) × Holds R n b xs₀ ls₀ xs ls
Finishes (Answer'.Budget k) R n xs₀ ls₀ s xs ls = (c : Control) × (b : Books) × (s ≡ going k c b) × Holds R n b xs₀ ls₀ xs ls

-- at most `budget` steps, from a stand
pub record RunsOn (bs : List ℕ) (nodes room n : ℕ) (is : List ℤ) (end : List ℕ) (budget : ℕ) (t : Stand) (a : Answer) (l : Lists) (bytes' lengths' : List ℕ) : Type 0 where
  pub comes : (G : Given room n) → G.inputs ≡ is → G.end ≡ end → (p : Program) → checked bs ≡ good p → p.parties ≡ n → length p.nodes ≡ nodes → PlacesIn bs nodes l.work
      → (b : Books) → Stands G b l → Finishes a room n G.bytes₀ G.lengths₀ (run (record { program = p; room = room }) budget (going 0 (control_of t l.work) b)) bytes' lengths'

-- the run of a good program, from its start
pub record Drives (bs : List ℕ) (n nodes room : ℕ) (counts : List ℕ) (is : List ℤ) (budget : ℕ) (a : Answer) (xs ls xs' ls' : List ℕ) : Type 0 where
  pub comes : (p : Program) (L : Lent) → checked bs ≡ good p → p.parties ≡ n → length p.nodes ≡ nodes → L.counts ≡ counts → L.inputs ≡ is → held_back ≤ room
      → Finishes a room n xs ls (after (record { program = p; room = room }) (inputs_of L) budget) xs' ls'

-- everything that a call leaves
abbrev pub Is : Left SingleAnswer → Result Answer Refused → (rs ls w : List ℕ) → Type 0
Is left a rs ls w = Lent.Is left (told a) rs ls w
