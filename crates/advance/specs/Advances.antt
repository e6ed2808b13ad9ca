-- What a step comes to that needs nothing but the area: a move that was made, or what the rule asks for besides; and a run of moves.
use Rattle.std.specs.Prelude.{◌≡◌, ℕ, zero, suc, ◌<◌, List}
use Rattle.nodes.specs.Nodes.{joint_node, IsJoint}
use Rattle.nodes.specs.declared.Node.{Node}
use Rattle.nodes.specs.declared.JointNode.TheVariants.{Neither}
use Rattle.rules.specs.Rules.{rule}
use Rattle.rules.specs.Moves.{move}
use Rattle.rules.specs.declared.effects.View.{View}
use Rattle.rules.specs.declared.effects.Move.{Move}
use Rattle.rules.specs.declared.effects.Effect.{Effect}
use Rattle.rules.specs.declared.effects.Effect.TheVariants as Effect'
use Rattle.area.specs.Levels.{names_at, control_of, Goes}
use Rattle.area.specs.declared.stand.Stand.{Stand}
use Rattle.area.specs.declared.stand.Next.{Next}
use Rattle.area.specs.declared.stand.Next.TheVariants as Next'
use Rattle.table.specs.Table.{node_by}
use Rattle.lookup.specs.Lookup.{Unmet}
use Rattle.advance.specs.declared.Advanced.{Advanced}
use Rattle.advance.specs.declared.Advanced.TheVariants.{Moved, Asks, Joins}
use Rattle.advance.specs.declared.Haste.{Haste}
use Rattle.advance.specs.declared.Haste.TheVariants as Haste'
use Rattle.advance.specs.declared.strides.Gone.{Gone}

-- what the rule of a node asks for, where control stands at t over the bytes w
abbrev pub rule_of : View → Node → Stand → List ℕ → Effect
rule_of view node t w = rule view node t.mode (names_at w t.depth.frames)

-- the same for the node at which control stands
abbrev pub rule_at : View → List ℕ → ℕ → Stand → List ℕ → Effect
rule_at view bs nodes t w = rule_of view (node_by bs nodes w t.node) t w

-- an effect that is more than a move
abbrev pub Asked : Effect → Type 0
Asked (Effect'.Refuse refusal) = Unit {0}
Asked (Effect'.Goes mv) = ⊥
Asked Effect'.Reads = Unit {0}
Asked (Effect'.Writes i) = Unit {0}
Asked (Effect'.Meets mt o) = Unit {0}

-- the answer y at a node: the move was made that its rule asks for, or nothing was done yet
pub record Answers (view : View) (node : Node) (t : Stand) (y : Advanced) (w w' : List ℕ) : Type 0 where
  pub moved : (next : Next) → y ≡ Moved next → (mv : Move) × (Effect'.Goes mv ≡ rule_of view node t w) × Goes next (move mv (control_of t w)) w w'
  pub asks : (effect : Effect) → y ≡ Asks effect → (effect ≡ rule_of view node t w) × Asked effect × (w' ≡ w) × Unmet effect
  pub joins : y ≡ Joins → IsJoint (joint_node node) × (w' ≡ w)

-- what was done of a node before its rule was asked, and is the same for all and for one site
abbrev pub Hastens : Node → Stand → Haste → (w w' : List ℕ) → Type 0
Hastens node t (Haste'.Moved next) w w' = (view : View) → Answers view node t (Moved next) w w'
Hastens node t Haste'.Joins w w' = IsJoint (joint_node node) × (w' ≡ w)
Hastens node t Haste'.None w w' = (joint_node node ≡ Neither) × (w' ≡ w)

-- one step
abbrev pub Advances : View → List ℕ → ℕ → Stand → Advanced → (w w' : List ℕ) → Type 0
Advances view bs nodes t y w w' = Answers view (node_by bs nodes w t.node) t y w w'

-- so many moves, one after the other, from the stand t over w to u over v
unfoldable pub Moves : View → List ℕ → ℕ → ℕ → (t : Stand) (w : List ℕ) (u : Stand) (v : List ℕ) → Type 0
Moves view bs nodes zero t w u v = (t ≡ u) × (w ≡ v)
Moves view bs nodes (suc k) t w u v = (s : Stand) × (x : List ℕ) × Moves view bs nodes k t w s x × Advances view bs nodes s (Moved (Next'.On u)) x v

-- fewer moves than `most`, and the step after them
abbrev pub GoesFar : View → List ℕ → ℕ → Stand → (most : ℕ) → Gone → (w w' : List ℕ) → Type 0
GoesFar view bs nodes t most f w w' =
    (f.moves < most) × (v : List ℕ) × Moves view bs nodes f.moves t w f.stand v × Advances view bs nodes f.stand f.came v w'
