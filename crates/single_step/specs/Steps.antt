-- One step of the single run, in the lent bytes: from a stand, books and an area to what the step of the rules comes to.
use Rattle.std.specs.Prelude.{◌≡◌, ℕ, ◌+◌, ◌*◌, ◌≤◌, ◌<◌, List, ℤ, length, take, Result, Ok, Err}
use Rattle.std.proofs.Math.Option.{some}
use Rattle.limits.specs.Limits.{max_parties}
use Rattle.parties.specs.declared.sets.PartySet.{PartySet}
use Rattle.refusals.specs.declared.Refusal.{Refusal}
use Rattle.values.specs.declared.value.Value.{Value}
use Rattle.records.specs.declared.events.Event.{Event}
use Rattle.program.specs.Check.{Program, good, checked}
use Rattle.refusals.specs.Numbers.{number_of}
use Rattle.rules.specs.Books.{Books}
use Rattle.rules.specs.Moves.{Control, move}
use Rattle.rules.specs.Single.{Setting, Single, going, ended, stopped, note_all, arrive, settle_all, perform, step}
use Rattle.rules.specs.declared.effects.View.TheVariants.{Whole}
use Rattle.rules.specs.declared.effects.Move.{Move}
use Rattle.rules.specs.declared.effects.Move.TheVariants.{Hand}
use Rattle.rules.specs.declared.effects.Effect.{Effect}
use Rattle.area.specs.Levels.{table_size, control_of, next_of}
use Rattle.table.specs.Table.{PlacesIn}
use Rattle.area.specs.declared.stand.Stand.{Stand}
use Rattle.area.specs.declared.stand.Next.{Next}
use Rattle.advance.specs.Advances.{rule_at, Asked, Advances, Moves}
use Rattle.advance.specs.declared.Advanced.{Advanced}
use Rattle.advance.specs.declared.Advanced.TheVariants as Advanced'
use Rattle.ledger.specs.Ledger.{Holds, Fits}
use Rattle.inputs.specs.Inputs.{InputsHold}
use Rattle.single_step.specs.declared.Stepped.{Stepped}
use Rattle.single_step.specs.declared.Stepped.TheVariants.{On, Ended, Stopped}
use Rattle.single_step.specs.declared.Stride.{Stride}

-- the lists that a run writes: the records, the lengths, the area, and where each party's next input is
pub record Lists : Type 0 where
  pub bytes : List ℕ
  pub lengths : List ℕ
  pub work : List ℕ
  pub at : List ℕ

-- what a run does not write: the inputs and where each party's end, and what the records and the lengths held when they were lent
pub record Given (room n : ℕ) : Type 0 where
  pub inputs : List ℤ
  pub end : List ℕ
  pub bytes₀ : List ℕ
  pub lengths₀ : List ℕ
  pub long : n * room ≤ length bytes₀
  pub places : n ≤ length lengths₀

-- the lists hold the books of n parties
pub record Stands {room n : ℕ} (G : Given room n) (b : Books) (l : Lists) : Type 0 where
  pub holds : Holds room n b G.bytes₀ G.lengths₀ l.bytes l.lengths
  pub fits : Fits room n b
  pub inputs : InputsHold max_parties G.inputs l.at G.end b

-- what a step that answers y comes to: s is the state of the rules, at the node e after k steps, and the lists hold its books
abbrev pub Comes : Stepped → {room n : ℕ} → Given room n → (k e : ℕ) → Single → Lists → Type 0
Comes (On t) {room} {n} G k e s l = (b : Books) × (s ≡ going (k + 1) (control_of t l.work) b) × Stands G b l
Comes Ended {room} {n} G k e s l = (v : Value) × (b : Books) × (s ≡ ended (k + 1) v b) × Holds room n b G.bytes₀ G.lengths₀ l.bytes l.lengths
Comes (Stopped r) {room} {n} G k e s l = (b : Books) × (s ≡ stopped k (number_of r) e b) × Holds room n b G.bytes₀ G.lengths₀ l.bytes l.lengths

-- control arrives where a move has led it
pub record Arrives (room n : ℕ) (next : Next) (y : Stepped) (bytes lengths bytes' lengths' : List ℕ) : Type 0 where
  pub comes : (G : Given room n) (k e : ℕ) (b : Books) (work at : List ℕ)
      → Stands G b (record { bytes = bytes; lengths = lengths; work = work; at = at })
      → Comes y G k e (arrive k e (next_of next work) b) (record { bytes = bytes'; lengths = lengths'; work = work; at = at })

-- control makes a move, and arrives
pub record Moved (room n : ℕ) (mv : Move) (t : Stand) (y : Stepped) (bytes lengths work bytes' lengths' work' : List ℕ) : Type 0 where
  pub comes : (G : Given room n) (k : ℕ) (b : Books) (at : List ℕ)
      → Stands G b (record { bytes = bytes; lengths = lengths; work = work; at = at })
      → Comes y G k t.node (arrive k t.node (move mv (control_of t work)) b) (record { bytes = bytes'; lengths = lengths'; work = work'; at = at })
  pub table : take table_size work' ≡ take table_size work

-- what an entry comes to: the run stops, or each member notes the event and the value is handed back
abbrev pub enter : Setting → ℕ → Control → Books → Result (Event × Value) Refusal → Single
enter S k c b (Err refusal) = stopped k (number_of refusal) c.node b
enter S k c b (Ok (ev, v)) = settle_all S k c b (some ev) (Hand v)

-- the books once an entry is made
abbrev pub entered : Result (Event × Value) Refusal → PartySet → Books → Books
entered (Err refusal) m b = b
entered (Ok (ev, v)) m b = note_all m (some ev) b

-- an effect comes to an entry, where the next inputs are those at `at`, and then those at `at'`
pub record EntryOf (is : List ℤ) (end : List ℕ) (effect : Effect) (m : PartySet) (entry : Result (Event × Value) Refusal) (at at' : List ℕ) : Type 0 where
  pub comes : (S : Setting) (k : ℕ) (c : Control) (b : Books) → c.mode ≡ m → InputsHold max_parties is at end b → perform S k c b effect ≡ enter S k c b entry
  pub inputs : (b : Books) → InputsHold max_parties is at end b → InputsHold max_parties is at' end (entered entry m b)

-- an entry is made, by each member or, where one lacks room, by nobody; `at'` has what the books then have as inputs
pub record Settles (room n : ℕ) (entry : Result (Event × Value) Refusal) (t : Stand) (y : Stepped) (bytes lengths work bytes' lengths' work' : List ℕ) : Type 0 where
  pub comes : (G : Given room n) (p : Program) → p.parties ≡ n → (k : ℕ) (b : Books) (at at' : List ℕ)
      → Stands G b (record { bytes = bytes; lengths = lengths; work = work; at = at })
      → InputsHold max_parties G.inputs at' G.end (entered entry t.mode b)
      → Comes y G k t.node (enter (record { program = p; room = room }) k (control_of t work) b entry) (record { bytes = bytes'; lengths = lengths'; work = work'; at = at' })
  pub table : take table_size work' ≡ take table_size work

-- a step that is no move
abbrev pub NoMove : Advanced → Type 0
NoMove (Advanced'.Moved next) = ⊥
NoMove (Advanced'.Asks effect) = Unit {0}
NoMove Advanced'.Joins = Unit {0}

-- what the rule asks for where a step was no move, and so nothing was done yet
pub record EffectOf (bs : List ℕ) (nodes : ℕ) (y : Advanced) (t : Stand) (r : Effect) (w : List ℕ) : Type 0 where
  pub asks : (v : List ℕ) → Advances Whole bs nodes t y v w → NoMove y → (r ≡ rule_at Whole bs nodes t v) × Asked r × (w ≡ v)

-- one step of a good program's run
pub record StepsOn (bs : List ℕ) (nodes room n : ℕ) (is : List ℤ) (end : List ℕ) (t : Stand) (y : Stepped) (l l' : Lists) : Type 0 where
  pub comes : (G : Given room n) → G.inputs ≡ is → G.end ≡ end → (p : Program) → checked bs ≡ good p → p.parties ≡ n → length p.nodes ≡ nodes → PlacesIn bs nodes l.work
      → (k : ℕ) (b : Books) → Stands G b l → Comes y G k t.node (step (record { program = p; room = room }) (going k (control_of t l.work) b)) l'
  pub table : take table_size l'.work ≡ take table_size l.work

-- some steps of a good program's run: moves, fewer than `most`, from t to u, and the step from there
abbrev pub Strides : (bs : List ℕ) (nodes room n : ℕ) → List ℤ → (end : List ℕ) (most : ℕ) → Stand → Stride → (l l' : Lists) → Type 0
Strides bs nodes room n is end most t s l l' =
    (s.moves < most) × (u : Stand) × (v : List ℕ) × Moves Whole bs nodes s.moves t l.work u v × (s.node ≡ u.node)
    × StepsOn bs nodes room n is end u s.came (record { bytes = l.bytes; lengths = l.lengths; work = v; at = l.at }) l'
