-- The answers of a step that needs only the area, and of a run of moves. Assumes nothing.
use Rattle.std.specs.Prelude.{Ok}
use mathlib.Core.Path.{◌≡◌, refl, sym, ◌∙◌, subst}
use mathlib.Core.List.{List, [], ◌∷◌}
use Prim.Native.Nat.{ℕ, zero, suc, ◌+◌}
use native.Mathlib.Omega.{arith}
use denote.Enum.{Declared.tag_of}
use types.Run.{OneOf, miss}
use Rattle.limits.specs.declared.Name.{Name}
use Rattle.parties.specs.declared.sets.PartySet.{PartySet}
use Rattle.nodes.specs.declared.Node.{Node}
use Rattle.nodes.specs.Nodes.{joint_node, IsJoint}
use Rattle.nodes.specs.declared.Node.TheVariants.{VAR, INT, OP, MUX, READ, WRITE, EMBED, SHARE, REVEAL, LET, CASE, PAR, CALL}
use Rattle.nodes.specs.declared.JointNode.{JointNode}
use Rattle.nodes.specs.declared.JointNode.TheVariants.{SHARE as SHARE', REVEAL as REVEAL', Neither}
use Rattle.nodes.specs.contracts.Node.{the_type as node-type}
use Rattle.rules.specs.Names.{Names, look, look_all, names_of}
use Rattle.rules.specs.Rules.{judge, rule}
use Rattle.rules.specs.RuleLaws.{at_site, rule_holds}
use Rattle.rules.specs.Moves.{hand_back, move}
use Rattle.values.specs.declared.value.Value.{Value}
use Rattle.rules.specs.declared.bindings.Binding.{Binding}
use Rattle.rules.specs.declared.effects.View.{View}
use Rattle.rules.specs.declared.effects.Move.{Move}
use Rattle.rules.specs.declared.effects.Move.TheVariants.{Hand, Down, Call}
use Rattle.rules.specs.declared.effects.Effect.{Effect}
use Rattle.rules.specs.declared.effects.Effect.TheVariants as Effect'
use Rattle.rules.specs.contracts.effects.Effect.{the_type}
use Rattle.area.specs.Levels.{names_at, frames_of, control_of, Goes}
use Rattle.area.specs.declared.stand.Stand.{Stand}
use Rattle.area.specs.declared.stand.Next.{Next}
use Rattle.area.specs.declared.stand.Next.TheVariants as Next'
use Rattle.table.specs.Table.{node_by}
use Rattle.lookup.specs.Lookup.{sought_of, joint_rule, Unmet}
use Rattle.lookup.proofs.LookupLaws.{found_is}
use Rattle.lookup.proofs.JointLaws.{unmet}
use Rattle.advance.specs.Advances.{rule_of, Asked, Answers, Hastens, Advances, Moves}
use Rattle.advance.specs.declared.Advanced.{Advanced}
use Rattle.advance.specs.declared.Advanced.TheVariants.{Moved, Asks, Joins}
use Rattle.advance.specs.declared.Haste.{Haste}
use Rattle.advance.specs.declared.Haste.TheVariants as Haste'

-- what is left once control does not just move
pub asked_left : (effect : Effect) → OneOf (0 ∷ 2 ∷ 3 ∷ 4 ∷ []) (tag_of the_type effect) → Asked effect
asked_left (Effect'.Refuse r) h = tt
asked_left (Effect'.Goes mv) h = miss (0 ∷ 2 ∷ 3 ∷ 4 ∷ []) 1 tt h
asked_left Effect'.Reads h = tt
asked_left (Effect'.Writes i) h = tt
asked_left (Effect'.Meets mt o) h = tt

-- a meeting's rule asks for no move
pub joint_asked : (view : View) (node : JointNode) (m : PartySet) (b : Names) → Asked (joint_rule view node m b)
joint_asked view (SHARE' a q x) m b = rule_holds m Asked tt tt view (SHARE a q x) b tt (λ vs f. (λ i l e k. tt, at_site view (λ e. tt)))
joint_asked view (REVEAL' q x) m b = rule_holds m Asked tt tt view (REVEAL q x) b tt (λ vs f. (λ i s l e k. tt, at_site view tt))
joint_asked view Neither m b = tt

-- ---- what a step answers
module _ (view : View) (node : Node) (t : Stand) (w : List ℕ) where
  pub answers_asks : (effect : Effect) → effect ≡ rule_of view node t w → Asked effect → joint_node node ≡ Neither → Answers view node t (Asks effect) w w
  answers_asks effect is h none =
      record {
        moved = λ next q. absurd (let z : ◌≡◌ {A = ℕ} 0 1 = cc in omega arith);
        asks = λ e q. let same : effect ≡ e = cc in (
          sym same ∙ is,
          subst Asked same h,
          refl,
          subst Unmet (sym is ∙ same) (unmet view node t.mode (names_at w t.depth.frames) none),
        );
        joins = λ q. absurd (let z : ◌≡◌ {A = ℕ} 1 2 = cc in omega arith);
      }

  pub answers_moves : (mv : Move) (next : Next) (w' : List ℕ) → Effect'.Goes mv ≡ rule_of view node t w → Goes next (move mv (control_of t w)) w w' → Answers view node t (Moved next) w w'
  answers_moves mv next w' q g =
      record {
        moved = λ n e. let same : next ≡ n = cc in (mv, q, subst (λ (x : Next). Goes x (move mv (control_of t w)) w w') same g);
        asks = λ n e. absurd (let z : ◌≡◌ {A = ℕ} 0 1 = cc in omega arith);
        joins = λ e. absurd (let z : ◌≡◌ {A = ℕ} 0 2 = cc in omega arith);
      }

  pub answers_joins : IsJoint (joint_node node) → Answers view node t Joins w w
  answers_joins h =
      record {
        moved = λ next q. absurd (let z : ◌≡◌ {A = ℕ} 0 2 = cc in omega arith);
        asks = λ e q. absurd (let z : ◌≡◌ {A = ℕ} 1 2 = cc in omega arith);
        joins = λ q. (h, refl);
      }

-- a node that is left to its rule is of no meeting
pub no_meeting : (node : Node) → OneOf (0 ∷ 1 ∷ 2 ∷ 3 ∷ 4 ∷ 5 ∷ 6 ∷ 10 ∷ 11 ∷ []) (tag_of node-type node) → joint_node node ≡ Neither
unfolding joint_node
no_meeting (VAR x) h = refl
no_meeting (INT i) h = refl
no_meeting (OP o x y) h = refl
no_meeting (MUX x y z) h = refl
no_meeting READ h = refl
no_meeting (WRITE x) h = refl
no_meeting (EMBED x) h = refl
no_meeting (SHARE a q x) h = absurd (miss (0 ∷ 1 ∷ 2 ∷ 3 ∷ 4 ∷ 5 ∷ 6 ∷ 10 ∷ 11 ∷ []) 7 tt h)
no_meeting (REVEAL q x) h = absurd (miss (0 ∷ 1 ∷ 2 ∷ 3 ∷ 4 ∷ 5 ∷ 6 ∷ 10 ∷ 11 ∷ []) 8 tt h)
no_meeting (LET x e1 e2) h = refl
no_meeting (CASE x e1 e2) h = refl
no_meeting (PAR p e) h = refl
no_meeting (CALL f x) h = refl

-- ---- the rules of LET and CALL
module _ (view : View) (m : PartySet) (b : Names) where
  pub rule_let : (x : Name) (e1 e2 : ℕ) → Effect'.Goes (Down x e1 e2) ≡ rule view (LET x e1 e2) m b
  unfolding rule look_all names_of judge
  rule_let x e1 e2 = refl

  pub rule_call : (f : ℕ) (x : Name) (y : Binding) → Ok y ≡ sought_of x (look m b x) → Effect'.Goes (Call f y.value) ≡ rule view (CALL f x) m b
  unfolding rule look_all names_of judge
  rule_call f x y h = rw (found_is x (look m b x) y (sym h))

-- the rule of the node at which control stands
pub by_node : (view : View) (bs : List ℕ) (nodes : ℕ) (t : Stand) (w : List ℕ) (node : Node) {y : Advanced} (w' : List ℕ) → node ≡ node_by bs nodes w t.node
    → Answers view node t y w w' → Advances view bs nodes t y w w'
by_node view bs nodes t w node {y} w' e = subst (λ (x : Node). Answers view x t y w w') e

-- ---- what was done of a node before its rule was asked
pub hastens_at : (node n : Node) (t : Stand) (r : Haste) (w w' : List ℕ) → node ≡ n → Hastens n t r w w' → Hastens node t r w w'
hastens_at node n t r w w' e = subst (λ (x : Node). Hastens x t r w w') (sym e)

module _ (view : View) (bs : List ℕ) (nodes : ℕ) (t : Stand) (w : List ℕ) (node : Node) (is : node ≡ node_by bs nodes w t.node) (r : Haste) (v : List ℕ) (h : Hastens node t r w v) where
  pub once_moved : (next : Next) → r ≡ Haste'.Moved next → Advances view bs nodes t (Moved next) w v
  once_moved next e = by_node view bs nodes t w node v is (subst (λ (x : Haste). Hastens node t x w v) e h view)

  pub once_joins : r ≡ Haste'.Joins → Advances view bs nodes t Joins w v
  once_joins e =
      let (joint, same) = subst (λ (x : Haste). Hastens node t x w v) e h in
      rw same (by_node view bs nodes t w node w is (answers_joins view node t w joint))

  -- the rest is left to the rule
  pub once_left : r ≡ Haste'.None → (joint_node node ≡ Neither) × (v ≡ w)
  once_left e = subst (λ (x : Haste). Hastens node t x w v) e h

  pub once_ruled : r ≡ Haste'.None → (y : Advanced) (w' : List ℕ) → Answers view node t y v w' → Advances view bs nodes t y w w'
  once_ruled e y w' a = by_node view bs nodes t w node w' is (subst (λ (x : List ℕ). Answers view node t y x w') (once_left e).1 a)

-- handing back is a move
pub hands : (v : Value) (t : Stand) (next : Next) (w w' : List ℕ) → Goes next (hand_back v (frames_of w t.depth.frames)) w w' → Goes next (move (Hand v) (control_of t w)) w w'
unfolding move control_of
hands v t next w w' g = g

-- ---- a run of moves
module _ (view : View) (bs : List ℕ) (nodes : ℕ) (t : Stand) (w : List ℕ) where
  pub no_moves : Moves view bs nodes 0 t w t w
  unfolding Moves
  no_moves = (refl, refl)

  -- another one
  pub one_more : (k : ℕ) (s u : Stand) (x v : List ℕ) → Moves view bs nodes k t w s x → Advances view bs nodes s (Moved (Next'.On u)) x v → Moves view bs nodes (k + 1) t w u v
  unfolding Moves
  one_more k s u x v h a = let next : k + 1 ≡ suc k = omega arith in rw next (s, x, h, a)

  -- what each move keeps, the moves keep
  pub moves_keep : (P : ℕ → Stand → List ℕ → Type 0) → P 0 t w → ((k : ℕ) (s u : Stand) (x v : List ℕ) → P k s x → Advances view bs nodes s (Moved (Next'.On u)) x v → P (k + 1) u v)
      → (k : ℕ) (u : Stand) (v : List ℕ) → Moves view bs nodes k t w u v → P k u v
  unfolding Moves
  moves_keep P start keeps zero u v (same, bytes) = subst (λ (x : List ℕ). P 0 u x) bytes (subst (λ (s : Stand). P 0 s w) same start)
  moves_keep P start keeps (suc k) u v (s, x, h, a) = let next : k + 1 ≡ suc k = omega arith in subst (λ (j : ℕ). P j u v) next (keeps k s u x v (moves_keep P start keeps k s x h) a)
