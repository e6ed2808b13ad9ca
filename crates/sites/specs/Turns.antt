-- A turn in the lent bytes: from the sites that they hold to the sites after it, and whether it counts.
use Rattle.std.specs.Prelude.{◌≡◌, ℕ, ◌+◌, ◌*◌, ◌≤◌, ◌<◌, Bool, true, List, Option, Some, None, ℤ, length, get_or, set}
use Rattle.nodes.specs.Nodes.{joint_node, IsJoint}
use Rattle.rules.specs.Joint.{Sites, turn}
use Rattle.rules.specs.declared.effects.Effect.{Effect}
use Rattle.area.specs.Rows.{row_size, row, area_of, back}
use Rattle.area.specs.declared.stand.Stand.{Stand}
use Rattle.area.specs.declared.stand.Next.{Next}
use Rattle.seats.specs.Seats.{seat_at}
use Rattle.seats.specs.declared.Seat.TheVariants.{Running}
use Rattle.table.specs.Table.{node_by}
use Rattle.advance.specs.Advances.{Asked}
use Rattle.advance.specs.Strides.{InRow, AmongRows}
use Rattle.advance.specs.declared.Advanced.TheVariants.{Asks}
use Rattle.advance.specs.declared.strides.Did.{Did}
use Rattle.acts.specs.Acts.{Lands}
use Rattle.meets.specs.Places.{setting_of, Given, Stands, InputsStand}
use Rattle.turn_steps.specs.Steps.{once}

-- a turn of site P
pub record Turns (bs : List ℕ) (nodes P n room : ℕ) (is : List ℤ) (end : List ℕ) (r : Bool) (at bytes lengths work at' bytes' lengths' work' : List ℕ) : Type 0 where
  pub comes : (G : Given bs nodes room n) (J : Sites) → P < n → Stands G J bytes lengths work → InputsStand is end n at J
      → let J' : Sites = (turn (setting_of G.program room) P J).sites in
      Stands G J' bytes' lengths' work' × InputsStand is end n at' J' × (once r ≡ (turn (setting_of G.program room) P J).count)

-- a turn of site P, which stands at t, at a node of a meeting
pub record TurnsJoined (bs : List ℕ) (nodes : ℕ) (t : Stand) (P n room : ℕ) (is : List ℤ) (end : List ℕ) (r : Bool) (at bytes lengths work at' bytes' lengths' work' : List ℕ) : Type 0 where
  pub comes : Running t ≡ seat_at (area_of P work) → IsJoint (joint_node (node_by bs nodes (area_of P work) t.node))
      → Turns bs nodes P n room is end r at bytes lengths work at' bytes' lengths' work'

-- where a move has led site P, which stood at the node e: of all rows only its own change
pub record LandsRow (next : Next) (e P room : ℕ) (bytes lengths work bytes' lengths' work' : List ℕ) : Type 0 where
  pub used : ℕ
  pub own : List ℕ
  pub area : List ℕ
  pub lands : Lands next e (get_or lengths P 0) (row room P bytes) (area_of P work) used own area
  pub long : length area ≡ row_size
  pub records : bytes' ≡ back room P bytes own
  pub counts : lengths' ≡ set lengths P used
  pub areas : work' ≡ back row_size P work area

-- what a step can have come to: a rule asks for more than a move
abbrev pub Fits : Option Did → Type 0
Fits (Some did) = (effect : Effect) → did.came ≡ Asks effect → Asked effect
Fits None = Unit {0}

-- what is left to do of a turn of site P, which in the rows work₀ came to this
pub record TurnsCame (bs : List ℕ) (nodes : ℕ) (came : Option Did) (P n room : ℕ) (is : List ℤ) (end : List ℕ) (r : Bool) (at bytes lengths work at' bytes' lengths' work' : List ℕ) : Type 0 where
  pub comes : (t : Stand) (work₀ : List ℕ) → P * row_size + row_size ≤ length work₀ → AmongRows P (InRow true P bs nodes t came) work₀ work
      → Turns bs nodes P n room is end r at bytes lengths work₀ at' bytes' lengths' work'
