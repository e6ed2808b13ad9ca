-- Whether a site is at a meeting, in the rules' terms.
use Rattle.std.specs.Prelude.{◌≡◌, ℕ, List, Option, Some, None}
use Rattle.limits.specs.declared.Party.{Party}
use Rattle.parties.specs.declared.sets.PartySet.{PartySet}
use Rattle.nodes.specs.Nodes.{joint_node}
use Rattle.nodes.specs.declared.JointNode.{JointNode}
use Rattle.program.specs.Check.{Program, node_at}
use Rattle.rules.specs.Books.{Book, used}
use Rattle.rules.specs.Joint.{Attendance, away, there, running, attendance}
use Rattle.rules.specs.declared.effects.Offer.{Offer}
use Rattle.area.specs.Levels.{control_of}
use Rattle.seats.specs.Seats.{site_of}
use Rattle.area.specs.declared.stand.Stand.{Stand}

-- what the code's answer says
abbrev pub told : Option Offer → Attendance
told None = away
told (Some o) = there o

-- the answer r of site P, which stands at t, to whether it is at the node e, which was read already, in mode m
pub record AttendsFrom (node : JointNode) (t : Stand) (e : ℕ) (m : PartySet) (P : Party) (room length' : ℕ) (r : Option Offer) (w : List ℕ) : Type 0 where
  pub comes : (p : Program) → node ≡ joint_node (node_at p e) → (b : Book) → used b ≡ length'
      → told r ≡ attendance (record { program = p; room = room }) e m P.index (running (control_of t w) b)

-- the answer r to whether site P is at the node e in mode m, by the bytes w of its area and the length of its record
pub record IsAt (node : JointNode) (e : ℕ) (m : PartySet) (P : Party) (room length' : ℕ) (r : Option Offer) (w : List ℕ) : Type 0 where
  pub comes : (p : Program) → node ≡ joint_node (node_at p e) → (b : Book) → used b ≡ length'
      → told r ≡ attendance (record { program = p; room = room }) e m P.index (site_of w b)
