-- A meeting is concluded: what each member comes to.
use Rattle.std.specs.Prelude.{◌≡◌, ℕ, ◌+◌, ◌≤◌, ◌<◌, List, length, take, Option, Some, None}
use Rattle.std.proofs.Math.Option.{some}
use Rattle.limits.specs.declared.Party.{Party}
use Rattle.parties.specs.declared.sets.PartySet.{PartySet}
use Rattle.values.specs.Values.{slice}
use Rattle.program.specs.Check.{Program}
use Rattle.records.specs.Events.{held_back}
use Rattle.rules.specs.Books.{Book, used, handed, event_of}
use Rattle.rules.specs.Single.{Setting}
use Rattle.rules.specs.Joint.{Site, Sites, running, over, settle, parts, put_all}
use Rattle.rules.specs.declared.effects.Move.TheVariants.{Hand}
use Rattle.area.specs.Levels.{table_size, control_of}
use Rattle.area.specs.declared.stand.Stand.{Stand}
use Rattle.acts.specs.Acts.{Took}
use Rattle.meets.specs.Places.{setting_of, Given, Stands}
use Rattle.concludes.specs.declared.Joined.{Joined}

-- what a member comes to that is at the meeting: without an outcome the members disagree
abbrev pub concluding : Option Joined → Setting → ℕ → Site → Site
concluding (Some j) S P (running c b) = settle S P c b (some (event_of j.meeting j.number)) (Hand (slice P (handed j.meeting j.number)))
concluding (Some j) S P (over f b) = over f b
concluding None S P s = parts P s

-- a member's part, on its own record and area
pub record TakesPart (outcome : Option Joined) (t : Stand) (P : Party) (u : ℕ) (xs w : List ℕ) (u' : ℕ) (xs' w' : List ℕ) : Type 0 where
  pub part : (p : Program) (b : Book) → used b ≡ u → u + held_back ≤ length xs
      → Took b (concluding outcome (setting_of p (length xs)) P.index (running (control_of t w) b)) u xs u' xs' w'
  pub table : take table_size w' ≡ take table_size w

-- the member P comes to its conclusion, and no other site is touched
pub record ConcludesOne (outcome : Option Joined) (P room : ℕ) (bytes lengths work bytes' lengths' work' : List ℕ) : Type 0 where
  pub comes : (bs : List ℕ) (nodes n : ℕ) (G : Given bs nodes room n) (J J' : Sites) → P < n → Stands G J bytes lengths work
      → J' P ≡ concluding outcome (setting_of G.program room) P (J P)
      → ((Q : ℕ) → (Q ≡ P → ⊥) → J' Q ≡ J Q) → Stands G J' bytes' lengths' work'

-- all members do
pub record ConcludesAll (outcome : Option Joined) (m : PartySet) (n room : ℕ) (bytes lengths work bytes' lengths' work' : List ℕ) : Type 0 where
  pub comes : (bs : List ℕ) (nodes : ℕ) (G : Given bs nodes room n) (J : Sites) → Stands G J bytes lengths work
      → Stands G (put_all m (concluding outcome (setting_of G.program room)) J) bytes' lengths' work'
