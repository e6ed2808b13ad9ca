-- What a site's own rule asks of it, in the rules' terms.
use Rattle.std.specs.Prelude.{◌≡◌, ℕ, List, pos, Option, Some, None}
use Rattle.std.proofs.Math.Option.{none, some}
use Rattle.limits.specs.declared.Party.{Party}
use Rattle.values.specs.declared.value.Value.TheVariants.{Clear}
use Rattle.nodes.specs.Nodes.{joint_node, IsJoint}
use Rattle.nodes.specs.declared.JointNode.{JointNode}
use Rattle.program.specs.Check.{Program, node_at}
use Rattle.records.specs.declared.events.Event.TheVariants.{Wrote}
use Rattle.rules.specs.Books.{Book, used}
use Rattle.rules.specs.Moves.{Control}
use Rattle.rules.specs.Single.{Setting}
use Rattle.rules.specs.Joint as Joint
use Rattle.refusals.specs.Numbers.{number_of}
use Rattle.rules.specs.Joint.{Site, running, stop, settle, read_own, perform_own, own, acts, attends}
use Rattle.rules.specs.declared.effects.Move.TheVariants.{Hand}
use Rattle.rules.specs.declared.effects.Effect.{Effect}
use Rattle.rules.specs.declared.effects.Effect.TheVariants.{Refuse, Goes, Reads, Writes, Meets}
use Rattle.area.specs.Levels.{control_of}
use Rattle.area.specs.declared.stand.Stand.{Stand}
use Rattle.lookup.specs.Lookup.{Unmet}
use Rattle.advance.specs.Advances.{Asked}
use Rattle.site.specs.declared.own.Own.{Own}
use Rattle.site.specs.declared.own.Own.TheVariants.{Acts, Attends}
use Rattle.site.specs.declared.own.Invitation.{Invitation}

-- the site after an effect that it does by itself
unfoldable pub acted : Setting → ℕ → Control → Book → Effect → Site
acted S P c b (Refuse refusal) = stop (number_of refusal) c.node b
acted S P c b (Goes mv) = settle S P c b none mv
acted S P c b Reads = read_own S P c b b.inputs
acted S P c b (Writes i) = settle S P c b (some (Wrote i)) (Hand (Clear (pos 0) c.mode))
acted S P c b (Meets mt o) = running c b

-- what the code's answer says
abbrev pub own_of : Setting → ℕ → Control → Book → Own → Joint.Own
own_of S P c b (Acts effect) = acts (acted S P c b effect)
own_of S P c b (Attends mt o) = attends mt o

-- a site meets nobody by itself
abbrev pub Alone : Own → Type 0
Alone (Acts effect) = Unmet effect
Alone (Attends mt o) = Unit {0}

-- what is done by itself is no move: control moves before
abbrev pub AskedOwn : Own → Type 0
AskedOwn (Acts effect) = Asked effect
AskedOwn (Attends mt o) = Unit {0}

-- what a site does of an effect, by the length of its record
pub record Weighs (P : ℕ) (effect : Effect) (room length' : ℕ) (r : Own) : Type 0 where
  pub comes : (p : Program) (c : Control) (b : Book) → used b ≡ length' → perform_own (record { program = p; room = room }) P c b effect ≡ own_of (record { program = p; room = room }) P c b r
  pub alone : Alone r
  pub asked : Asked effect → AskedOwn r

-- the answer r to what site P, which stands at t, is asked to do at a joint node, by the bytes w of its area and the length of its record
pub record Owns (node : JointNode) (P : Party) (t : Stand) (room length' : ℕ) (r : Own) (w : List ℕ) : Type 0 where
  pub comes : (p : Program) → node ≡ joint_node (node_at p t.node) → IsJoint node → (b : Book) → used b ≡ length'
      → own (record { program = p; room = room }) P.index (control_of t w) b ≡ own_of (record { program = p; room = room }) P.index (control_of t w) b r
  pub alone : Alone r
  pub asked : AskedOwn r

-- the meeting that an effect is, if it is one
abbrev pub meeting_of : Effect → Option Invitation
meeting_of (Refuse refusal) = None
meeting_of (Goes mv) = None
meeting_of Reads = None
meeting_of (Writes i) = None
meeting_of (Meets mt o) = Some (record { meeting = mt; offer = o })

-- what it says of a site that it is invited or not
abbrev pub Says : Option Invitation → Joint.Own → Type 0
Says None x = (s : Site) × (x ≡ acts s)
Says (Some i) x = x ≡ attends i.meeting i.offer

-- the answer r to whether site P, which stands at t, passes its own checks at a node, by the bytes w of its area and the length of its record
pub record Invites (node : JointNode) (P : Party) (t : Stand) (room length' : ℕ) (r : Option Invitation) (w : List ℕ) : Type 0 where
  pub comes : (p : Program) → node ≡ joint_node (node_at p t.node) → (b : Book) → used b ≡ length'
      → Says r (own (record { program = p; room = room }) P.index (control_of t w) b)
