-- Who is at a meeting, in the rules' terms. A reader's answer r is said of the sites that the lengths and the working area hold.
use Rattle.std.specs.Prelude.{◌≡◌, ℕ, ◌<◌, Bool, cond, List, ℤ, Option, Some, None}
use Rattle.parties.specs.declared.sets.PartySet.{PartySet}
use Rattle.nodes.specs.Nodes.{joint_node}
use Rattle.nodes.specs.declared.JointNode.{JointNode}
use Rattle.program.specs.Check.{Program, node_at}
use Rattle.rules.specs.Single.{all_of}
use Rattle.rules.specs.Joint.{Site, Sites, Attendance, away, there, attendance, is_there, or_else, brought, agrees, all_agree}
use Rattle.rules.specs.declared.effects.Meeting.{Meeting}
use Rattle.rules.specs.declared.effects.Offer.{Offer}
use Rattle.attends.specs.Attends.{told}
use Rattle.meets.specs.Places.{setting_of, Sits}

-- site P's own area and the length of its own record say whether it is at the node e, which was read already, in mode m
pub record Attends (node : JointNode) (e : ℕ) (m : PartySet) (P room : ℕ) (a : Option Offer) (lengths work : List ℕ) : Type 0 where
  pub comes : (p : Program) → node ≡ joint_node (node_at p e) → (s : Site) → Sits P s lengths work
      → told a ≡ attendance (setting_of p room) e m P s

-- one member's part in what is gathered, with what was brought before
abbrev pub adding : Offer → Attendance → Option Offer
adding before away = None
adding before (there o) = Some (or_else (there o) before)

-- what all members below n bring, if none is away
unfoldable pub gathered : ℕ → PartySet → (ℕ → Attendance) → Option Offer
gathered n m f = cond (all_of n m (λ P. is_there (f P))) (Some (brought n m f)) None

pub record Brings (node : JointNode) (e : ℕ) (m : PartySet) (P room : ℕ) (before : Offer) (r : Option Offer) (lengths work : List ℕ) : Type 0 where
  pub comes : (p : Program) → node ≡ joint_node (node_at p e) → (s : Site) → Sits P s lengths work
      → r ≡ adding before (attendance (setting_of p room) e m P s)

pub record MemberAgrees (node : JointNode) (e : ℕ) (m : PartySet) (P room : ℕ) (i : ℤ) (h : PartySet) (r : Bool) (lengths work : List ℕ) : Type 0 where
  pub comes : (p : Program) → node ≡ joint_node (node_at p e) → (s : Site) → Sits P s lengths work
      → r ≡ agrees i h P (attendance (setting_of p room) e m P s)

-- the sites below n that the lengths and the working area hold, and a program whose node e this one is
pub record Sitting (node : JointNode) (e n : ℕ) (lengths work : List ℕ) : Type 0 where
  pub program : Program
  pub read : node ≡ joint_node (node_at program e)
  pub sites : Sites
  pub sits : (P : ℕ) → P < n → Sits P (sites P) lengths work

abbrev pub present : {node : JointNode} {e n : ℕ} {lengths work : List ℕ} → Sitting node e n lengths work → (room : ℕ) → PartySet → ℕ → Attendance
present {node} {e} Z room m P = attendance (setting_of Z.program room) e m P (Z.sites P)

pub record Gathers (node : JointNode) (e : ℕ) (m : PartySet) (n room : ℕ) (r : Option Offer) (lengths work : List ℕ) : Type 0 where
  pub comes : (Z : Sitting node e n lengths work) → r ≡ gathered n m (present Z room m)

pub record AllAgree (node : JointNode) (e : ℕ) (m : PartySet) (n room : ℕ) (i : ℤ) (h : PartySet) (r : Bool) (lengths work : List ℕ) : Type 0 where
  pub comes : (Z : Sitting node e n lengths work) → r ≡ all_of n m (λ P. agrees i h P (present Z room m P))

pub record Agreed (node : JointNode) (e : ℕ) (m : PartySet) (mt : Meeting) (n room : ℕ) (i : ℤ) (h : PartySet) (r : Bool) (lengths work : List ℕ) : Type 0 where
  pub comes : (Z : Sitting node e n lengths work) → r ≡ all_agree mt n m i h (present Z room m)
