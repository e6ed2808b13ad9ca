-- A joint node asks for what its rule asks for, by what its one name is bound to; and the rule of no other node asks for a meeting. Assumes nothing.
use Rattle.std.specs.Prelude.{Ok, Err}
use mathlib.Core.Path.{◌≡◌, refl, sym}
use mathlib.Core.List.{List, [], ◌∷◌}
use Prim.Native.Nat.{ℕ}
use native.Mathlib.Omega.{arith}
use Rattle.limits.specs.declared.Name.{Name}
use Rattle.parties.specs.declared.sets.PartySet.{PartySet}
use Rattle.values.specs.declared.value.Value.{Value}
use Rattle.nodes.specs.Nodes.{joint_node, IsJoint}
use Rattle.nodes.specs.declared.Node.{Node}
use Rattle.nodes.specs.declared.Node.TheVariants.{VAR, INT, OP, MUX, READ, WRITE, EMBED, SHARE, REVEAL, LET, CASE, PAR, CALL}
use Rattle.nodes.specs.declared.JointNode.TheVariants.{Neither}
use Rattle.refusals.specs.declared.Refusal.TheVariants.{NameUnbound}
use Rattle.rules.specs.Names.{Names, look, look_all, names_of}
use Rattle.rules.specs.Rules.{judge, rule}
use Rattle.rules.specs.RuleLaws.{OfKind, rule_holds}
use Rattle.rules.specs.declared.bindings.Binding.{Binding}
use Rattle.rules.specs.declared.effects.View.{View}
use Rattle.rules.specs.declared.effects.Effect.TheVariants.{Refuse}
use Rattle.lookup.specs.Lookup.{sought_of, joint_rule, Unmet}
use Rattle.lookup.specs.declared.Unbound.{Unbound}
use Rattle.lookup.proofs.LookupLaws.{found_is, missing_is}

-- ---- a node that reads one name, by what it is bound to
module _ (view : View) (e : Node) (m : PartySet) (b : Names) (x : Name) (reads : names_of e ≡ x ∷ []) where
  pub one_bound : (v : Binding) → Ok v ≡ sought_of x (look m b x) → judge view e m (v.value ∷ []) ≡ rule view e m b
  unfolding rule look_all
  one_bound v h = rw (reads, found_is x (look m b x) v (sym h))

  pub one_unbound : (y : Unbound) → Err y ≡ sought_of x (look m b x) → Refuse NameUnbound ≡ rule view e m b
  unfolding rule look_all
  one_unbound y h = rw (reads, (missing_is x (look m b x) y (sym h)).0)

-- ---- which nodes are joint
pub joint_rule_lem : (view : View) (n : Node) (m : PartySet) (b : Names) → IsJoint (joint_node n) → joint_rule view (joint_node n) m b ≡ rule view n m b
unfolding joint_node
joint_rule_lem view (VAR x) m b h = absurd h
joint_rule_lem view (INT i) m b h = absurd h
joint_rule_lem view (OP o x y) m b h = absurd h
joint_rule_lem view (MUX x y z) m b h = absurd h
joint_rule_lem view READ m b h = absurd h
joint_rule_lem view (WRITE x) m b h = absurd h
joint_rule_lem view (EMBED x) m b h = absurd h
joint_rule_lem view (SHARE a q x) m b h = refl
joint_rule_lem view (REVEAL q x) m b h = refl
joint_rule_lem view (LET x e1 e2) m b h = absurd h
joint_rule_lem view (CASE x e1 e2) m b h = absurd h
joint_rule_lem view (PAR p e) m b h = absurd h
joint_rule_lem view (CALL f x) m b h = absurd h

pub unmet : (view : View) (n : Node) (m : PartySet) (b : Names) → joint_node n ≡ Neither → Unmet (rule view n m b)
unfolding joint_node
unmet view n m b h = rule_holds m Unmet tt tt view n b tt (λ vs f. kind n h vs)
  where
    kind : (e : Node) → joint_node e ≡ Neither → (vs : List Value) → OfKind view m Unmet vs e
    kind (VAR x) q vs = tt
    kind (INT i) q vs = tt
    kind (OP o x y) q vs = λ s i j. tt
    kind (MUX x y z) q vs = λ a b c e f g. tt
    kind READ q vs = λ e. tt
    kind (WRITE x) q vs = λ i e. tt
    kind (EMBED x) q vs = λ i e. tt
    kind (SHARE a p x) q vs = absurd (let z : ◌≡◌ {A = ℕ} 0 1 = cc in omega arith)
    kind (REVEAL p x) q vs = absurd (let z : ◌≡◌ {A = ℕ} 0 1 = cc in omega arith)
    kind (LET x e1 e2) q vs = tt
    kind (CASE x e1 e2) q vs = λ t. tt
    kind (PAR p e) q vs = (λ f. tt, tt)
    kind (CALL f x) q vs = tt
