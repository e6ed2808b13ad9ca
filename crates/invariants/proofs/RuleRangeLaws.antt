-- What a rule asks for is in range, where the node, the mode and the bound values are. Assumes nothing.
use Rattle.std.specs.Prelude.{Option, Some, None, option_map}
use mathlib.Core.Path.{◌≡◌, subst}
use mathlib.Core.Bool.{Bool, true, false, ◌&&◌, cond}
use mathlib.Core.List.{List, [], ◌∷◌}
use Prim.Native.Nat.{ℕ, ◌^◌, ◌<◌}
use native.Mathlib.Omega.{arith}
use lib.Bits.{and_le_l}
use lib.IntN.{ℤ, pos}
use lib.ListN.{get_or}
use mir.Syntax.{w32}
use mir.Val.{SFits}
use Rattle.numbers.specs.Integers.{operate, operation_of, same_integer}
use Rattle.numbers.proofs.IntegerLaws.{operate_fits}
use Rattle.parties.specs.Sets.{member, meet, is_empty, same_set}
use Rattle.limits.specs.declared.Name.{Name}
use Rattle.parties.specs.declared.sets.PartySet.{PartySet}
use Rattle.values.specs.Values.{place, moved, restrict, slice, held, had_by}
use Rattle.cells.specs.Cells.{RangedValue}
use Rattle.cells.specs.Cells as Cells
use Rattle.values.specs.declared.value.Value.{Value}
use Rattle.values.specs.declared.value.Value.TheVariants.{Nothing, Clear, Share}
use Rattle.std.specs.Prelude.{Option, Some, None}
use Rattle.values.specs.declared.value.Held.{Held}
use Rattle.nodes.specs.declared.Node.{Node}
use Rattle.nodes.specs.declared.Node.TheVariants.{VAR, INT, OP, MUX, READ, WRITE, EMBED, SHARE, REVEAL, LET, CASE, PAR, CALL}
use Rattle.rules.specs.Names.{Names, look, Looked, found, unbound, before, look_all, names_of}
use Rattle.rules.specs.Rules.{mux, rule}
use Rattle.rules.specs.RuleLaws.{OfKind, at_site, rule_holds}
use Rattle.rules.specs.declared.effects.View.{View}
use Rattle.invariants.specs.InRange.{Every, Short, RangedNode, RangedNames, RangedEffect}
use Rattle.invariants.proofs.EveryLaws.{every_at}

-- ---- values

meet_short : (s t : PartySet) → Short s → Short (meet s t)
unfolding meet
meet_short s t h = omega (arith, and_le_l s.bits t.bits)

-- a value in range is at a set in range, and is in range at any other such
place_short : (v : Value) → RangedValue v → Short (place v)
unfolding place
place_short Nothing r = omega arith
place_short (Clear i l) r = r.1
place_short (Share i h l) r = r.1

moved_ranged : (l : PartySet) (v : Value) → Short l → RangedValue v → RangedValue (moved l v)
unfolding moved
moved_ranged l Nothing s r = tt
moved_ranged l (Clear i k) s r = (r.0, s)
moved_ranged l (Share i h k) s r = (r.0, s, r.2)

pub restrict_ranged : (m : PartySet) (v : Value) → RangedValue v → RangedValue (restrict m v)
unfolding restrict
restrict_ranged m v r = go (is_empty (meet (place v) m))
  where
    go : (t : Bool) → RangedValue (cond t Nothing (moved (meet (place v) m) v))
    go true = tt
    go false = moved_ranged (meet (place v) m) v (meet_short (place v) m (place_short v r)) r

pub slice_ranged : (P : ℕ) (v : Value) → RangedValue v → RangedValue (slice P v)
unfolding slice
slice_ranged P v r = go (member P (place v))
  where
    go : (t : Bool) → RangedValue (cond t v Nothing)
    go true = r
    go false = tt

-- ---- names

look_ranged : (m : PartySet) (b : Names) (x : Name) → RangedNames b → Cells.Ranged (look m b x)
unfolding look
look_ranged m b x r = go (get_or b x.index None) (every_at Cells.Ranged b x.index None r tt)
  where
    go : (y : Option Value) → Cells.Ranged y → Cells.Ranged (option_map (restrict m) y)
    go None h = tt
    go (Some v) h = restrict_ranged m v h

abbrev RangedLooked : Looked → Type 0
RangedLooked (found vs) = Every RangedValue vs
RangedLooked (unbound x) = Unit {0}

looked_ranged : (m : PartySet) (b : Names) (xs : List Name) → RangedNames b → RangedLooked (look_all m b xs)
unfolding look_all
looked_ranged m b [] r = tt
looked_ranged m b (x ∷ xs) r = go (look m b x) (look_all m b xs) (look_ranged m b x r) (looked_ranged m b xs r)
  where
    go : (y : Option Value) (l : Looked) → Cells.Ranged y → RangedLooked l → RangedLooked (before x y l)
    go None l h g = tt
    go (Some v) (found vs) h g = (h, g)
    go (Some v) (unbound z) h g = tt

-- ---- rules

abbrev RangedHeld : Option Held → Type 0
RangedHeld (Some x) = SFits w32 x.number
RangedHeld None = Unit {0}

held_ranged : (m : PartySet) (v : Value) → RangedValue v → RangedHeld (held m v)
unfolding held
held_ranged m Nothing r = tt
held_ranged m (Clear i l) r = go (same_set l m)
  where
    go : (t : Bool) → RangedHeld (cond t (Some (record { secret = false; number = i })) None)
    go true = r.0
    go false = tt
held_ranged m (Share i h l) r = go (same_set l m && same_set h m)
  where
    go : (t : Bool) → RangedHeld (cond t (Some (record { secret = true; number = i })) None)
    go true = r.0
    go false = tt

mux_fits : (x y z : ℤ) → SFits w32 y → SFits w32 z → SFits w32 (mux x y z)
unfolding mux
mux_fits x y z g h = go (same_integer x (pos 0))
  where
    go : (t : Bool) → SFits w32 (cond t z y)
    go true = h
    go false = g

module _ (m : PartySet) (s : Short m) where
  had_ranged : (secret : Bool) (i : ℤ) → SFits w32 i → RangedValue (had_by m secret i)
  unfolding had_by
  had_ranged true i h = (h, s, s)
  had_ranged false i h = (h, s)

  module _ (w : View) (vs : List Value) (r : Every RangedValue vs) where
    value : (k : ℕ) → RangedValue (get_or vs k Nothing)
    value k = every_at RangedValue vs k Nothing r tt

    number : (k : ℕ) (x : Held) → held m (get_or vs k Nothing) ≡ Some x → SFits w32 x.number
    number k x e = subst RangedHeld e (held_ranged m (get_or vs k Nothing) (value k))

    kind_ranged : (e : Node) → RangedNode e → OfKind w m RangedEffect vs e
    kind_ranged (VAR x) n = value 0
    kind_ranged (INT i) n = (n, s)
    kind_ranged (OP o x y) n = λ t i j. had_ranged t (operate (operation_of o) i j) (operate_fits (operation_of o) i j)
    kind_ranged (MUX x y z) n = λ a b c f g h. had_ranged a.secret (mux a.number b.number c.number) (mux_fits a.number b.number c.number (number 1 b g) (number 2 c h))
    kind_ranged READ n = λ one. tt
    kind_ranged (WRITE x) n = λ i h. number 0 _ h
    kind_ranged (EMBED x) n = λ i h. (number 0 _ h, s, s)
    kind_ranged (SHARE a q x) n = (λ i l f g. (n, (subst RangedValue f (value 0)).0), at_site w (λ g. (n, tt)))
    kind_ranged (REVEAL q x) n = (λ i h l f g. (n, (subst RangedValue f (value 0)).0), at_site w (n, tt))
    kind_ranged (LET x e1 e2) n = n
    kind_ranged (CASE x e1 e2) n = chosen
      where
        chosen : (t : Bool) → cond t e2 e1 < 2 ^ 16
        chosen true = n.1
        chosen false = n.0
    kind_ranged (PAR p e) n = (λ inside. (meet_short m p s, n), tt)
    kind_ranged (CALL f x) n = (n, value 0)

  pub rule_ranged : (w : View) (e : Node) (b : Names) → RangedNode e → RangedNames b → RangedEffect (rule w e m b)
  rule_ranged w e b n r =
      rule_holds m RangedEffect (omega arith) (omega arith) w e b (omega arith) (λ vs f. kind_ranged w vs (subst RangedLooked f (looked_ranged m b (names_of e) r)) e n)
