-- What a turn comes to in the lent bytes: a meeting of all members, or what a site does by itself.
use Rattle.std.specs.Prelude.{◌≡◌, ℕ, ◌<◌, Bool, cond, List, ℤ, Option, Some, None, Result, Ok, Err, IfOk}
use Rattle.std.proofs.Math.Option.{some}
use Rattle.parties.specs.declared.sets.PartySet.{PartySet}
use Rattle.nodes.specs.Nodes.{joint_node}
use Rattle.nodes.specs.declared.JointNode.{JointNode}
use Rattle.program.specs.Check.{node_at}
use Rattle.rules.specs.Rules.{joint_meeting}
use Rattle.rules.specs.Books.{Book}
use Rattle.rules.specs.Joint.{Sites, running, meeting, put}
use Rattle.rules.specs.declared.effects.Meeting.{Meeting}
use Rattle.rules.specs.declared.effects.Effect.{Effect}
use Rattle.rules.specs.declared.effects.Effect.TheVariants.{Refuse, Goes, Reads, Writes}
use Rattle.rules.specs.declared.effects.Effect.TheVariants as Effect'
use Rattle.area.specs.Rows.{area_of}
use Rattle.area.specs.Levels.{control_of}
use Rattle.area.specs.declared.stand.Stand.{Stand}
use Rattle.site.specs.Own.{Alone}
use Rattle.site.specs.declared.own.Own.TheVariants.{Acts}
use Rattle.acts.specs.Acts.{obeyed}
use Rattle.meets.specs.Places.{setting_of, Given, Stands, InputsStand}

-- whether a turn counts, as a number
abbrev pub once : Bool → ℕ
once counted = cond counted 1 0

-- all of the mode m meet at the node e, which asks for the meeting mt, or nothing changes
pub record Meets (node : JointNode) (e : ℕ) (m : PartySet) (mt : Meeting) (n room : ℕ) (r : Bool) (bytes lengths work bytes' lengths' work' : List ℕ) : Type 0 where
  pub comes : (bs : List ℕ) (nodes : ℕ) (G : Given bs nodes room n) (J : Sites) → node ≡ joint_node (node_at G.program e) → joint_meeting (node_at G.program e) ≡ some mt → Stands G J bytes lengths work
      → Stands G (meeting (setting_of G.program room) e m mt J).sites bytes' lengths' work' × (once r ≡ (meeting (setting_of G.program room) e m mt J).count)

-- how many inputs a site takes by what it is told
abbrev pub taken_by : Result Effect ℕ → Option ℤ → ℕ
taken_by (Ok (Refuse refusal)) input = 0
taken_by (Ok (Goes mv)) input = 0
taken_by (Ok Reads) (Some i) = 1
taken_by (Ok Reads) None = 0
taken_by (Ok (Writes i)) input = 0
taken_by (Ok (Effect'.Meets mt o)) input = 0
taken_by (Err number) input = 0

-- site P, which stands at t, does by itself what it is told
pub record ActsAlone (told : Result Effect ℕ) (t : Stand) (P room : ℕ) (is : List ℤ) (end at bytes lengths work at' bytes' lengths' work' : List ℕ) : Type 0 where
  pub comes : (bs : List ℕ) (nodes n : ℕ) (G : Given bs nodes room n) (J : Sites) (b : Book) → P < n → Stands G J bytes lengths work → InputsStand is end n at J → IfOk told (λ effect. Alone (Acts effect))
      → J P ≡ running (control_of t (area_of P work)) b
      → let J' : Sites = put P (obeyed (setting_of G.program room) P (control_of t (area_of P work)) b told) J in
      Stands G J' bytes' lengths' work' × InputsStand is end n at' J'
