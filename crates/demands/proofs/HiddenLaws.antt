-- Hiding the numbers inside shares: what a rule does, but for such numbers, does not depend on them. Assumes nothing.
use Prim.Native.Nat.{ℕ}
use mathlib.Core.Path.{◌≡◌, refl}
use mathlib.Core.Bool.{Bool, true, false, ◌&&◌, cond, beq}
use mathlib.Core.List.{List, map}
use lib.Dec.{eqb}
use lib.IntN.{ℤ, pos}
use lib.ListN.{get_or}
use Rattle.numbers.specs.Integers.{operate, operation_of}
use Rattle.parties.specs.Sets.{join, same_set}
use Rattle.limits.specs.declared.Party.{Party}
use Rattle.parties.specs.declared.sets.PartySet.{PartySet}
use Rattle.values.specs.Values.{place, moved, restrict, held, had_by}
use Rattle.values.specs.declared.value.Value.{Value}
use Rattle.values.specs.declared.value.Value.TheVariants.{Nothing, Clear, Share}
use Rattle.std.specs.Prelude.{Option, Some, None}
use Rattle.values.specs.declared.value.Held.{Held}
use Rattle.nodes.specs.declared.Node.{Node}
use Rattle.nodes.specs.declared.Node.TheVariants.{VAR, INT, OP, MUX, READ, WRITE, EMBED, SHARE, REVEAL, LET, CASE, PAR, CALL}
use Rattle.refusals.specs.declared.Refusal.TheVariants.{WrongValue, WrongMode}
use Rattle.rules.specs.Names.{Names, Looked, found, unbound, look_all, names_of, first, second, third}
use Rattle.rules.specs.Rules.{unless, hands_back, on_two, on_three, mux, if_clear, giver_shares, other_shares, at_share, holder_opens, at_reveal, judge, with_values, rule}
use Rattle.rules.specs.declared.effects.View.{View}
use Rattle.rules.specs.declared.effects.View.TheVariants.{Whole, Site}
use Rattle.rules.specs.declared.effects.Move.{Move}
use Rattle.rules.specs.declared.effects.Move.TheVariants.{Hand, Down, Goto, Enter, Call}
use Rattle.rules.specs.declared.effects.Meeting.{Meeting}
use Rattle.rules.specs.declared.effects.Meeting.TheVariants.{Revealing}
use Rattle.rules.specs.declared.effects.Offer.{Offer}
use Rattle.rules.specs.declared.effects.Offer.TheVariants.{Empty}
use Rattle.rules.specs.declared.effects.Effect.{Effect}
use Rattle.rules.specs.declared.effects.Effect.TheVariants.{Refuse, Goes, Reads, Writes, Meets}
use Rattle.invariants.specs.Changes.{on_names, on_looked}
use Rattle.invariants.proofs.NameLaws.{nth_on, look_all_on}

-- a value with 0 for the number of a share
abbrev pub hide : Value → Value
hide Nothing = Nothing
hide (Clear i l) = Clear i l
hide (Share i h l) = Share (pos 0) h l

abbrev pub hide_move : Move → Move
hide_move (Hand v) = Hand (hide v)
hide_move (Down x e1 e2) = Down x e1 e2
hide_move (Goto e) = Goto e
hide_move (Enter m e) = Enter m e
hide_move (Call f v) = Call f (hide v)

-- what a site brings to a meeting is hidden too: only others use it
abbrev pub hide_effect : Effect → Effect
hide_effect (Refuse refusal) = Refuse refusal
hide_effect (Goes mv) = Goes (hide_move mv)
hide_effect Reads = Reads
hide_effect (Writes i) = Writes i
hide_effect (Meets mt o) = Meets mt Empty

abbrev hide_held : Option Held → Option Held
hide_held (Some x) = Some (record { secret = x.secret; number = cond x.secret (pos 0) x.number })
hide_held None = None

-- ---- values

hide_hide : (v : Value) → hide (hide v) ≡ hide v
hide_hide Nothing = refl
hide_hide (Clear i l) = refl
hide_hide (Share i h l) = refl

pub hide_cond : (t : Bool) (v u : Value) → hide (cond t v u) ≡ cond t (hide v) (hide u)
hide_cond true v u = refl
hide_cond false v u = refl

hide_restrict : (m : PartySet) (v : Value) → restrict m (hide v) ≡ hide (restrict m v)
unfolding restrict place moved
hide_restrict m Nothing = rw hide_cond
hide_restrict m (Clear i l) = rw hide_cond
hide_restrict m (Share i h l) = rw hide_cond

hide_held_lem : (m : PartySet) (v : Value) → held m (hide v) ≡ hide_held (held m v)
unfolding held
hide_held_lem m Nothing = refl
hide_held_lem m (Clear i l) = go (same_set l m)
  where
    go : (t : Bool) → cond t (Some (record { secret = false; number = i })) None ≡ hide_held (cond t (Some (record { secret = false; number = i })) None)
    go true = refl
    go false = refl
hide_held_lem m (Share i h l) = go (same_set l m && same_set h m)
  where
    go : (t : Bool) → cond t (Some (record { secret = true; number = pos 0 })) None ≡ hide_held (cond t (Some (record { secret = true; number = i })) None)
    go true = refl
    go false = refl

-- ---- effects

two_hide : (m : PartySet) (f : ℤ → ℤ → ℤ) (g h : Option Held) → hide_effect (on_two m f (hide_held g) (hide_held h)) ≡ hide_effect (on_two m f g h)
unfolding had_by
two_hide m f (Some x) (Some y) = go x.secret y.secret
  where
    over : (s t : Bool) → ℤ → Effect
    over s t n = hide_effect (unless WrongValue (beq s t) (hands_back (had_by m s n)))

    go : (s t : Bool) → over s t (f (cond s (pos 0) x.number) (cond t (pos 0) y.number)) ≡ over s t (f x.number y.number)
    go true true = refl
    go true false = refl
    go false true = refl
    go false false = refl
two_hide m f (Some x) None = refl
two_hide m f None h = refl

three_hide : (m : PartySet) (f : ℤ → ℤ → ℤ → ℤ) (g h k : Option Held)
    → hide_effect (on_three m f (hide_held g) (hide_held h) (hide_held k)) ≡ hide_effect (on_three m f g h k)
unfolding had_by
three_hide m f (Some x) (Some y) (Some z) = go x.secret y.secret z.secret
  where
    over : (s t u : Bool) → ℤ → Effect
    over s t u n = hide_effect (unless WrongValue (beq s t && beq s u) (hands_back (had_by m s n)))

    go : (s t u : Bool) → over s t u (f (cond s (pos 0) x.number) (cond t (pos 0) y.number) (cond u (pos 0) z.number)) ≡ over s t u (f x.number y.number z.number)
    go true true true = refl
    go true true false = refl
    go true false u = refl
    go false true u = refl
    go false false true = refl
    go false false false = refl
three_hide m f (Some x) (Some y) None = refl
three_hide m f (Some x) None k = refl
three_hide m f None h k = refl

clear_hide : (g : Option Held) (k : ℤ → Effect) → if_clear (hide_held g) k ≡ if_clear g k
clear_hide None k = refl
clear_hide (Some x) k = go x.secret
  where
    go : (s : Bool) → cond s (Refuse WrongValue) (k (cond s (pos 0) x.number)) ≡ cond s (Refuse WrongValue) (k x.number)
    go true = refl
    go false = refl

-- two meetings in which all but the offer is the same
unless_hide : (s t : Bool) (mt : Meeting) (o o' : Offer)
    → hide_effect (unless WrongValue s (unless WrongMode t (Meets mt o))) ≡ hide_effect (unless WrongValue s (unless WrongMode t (Meets mt o')))
unless_hide true true mt o o' = refl
unless_hide true false mt o o' = refl
unless_hide false t mt o o' = refl

module _ (m q : PartySet) where
  giver_hide : (a : Party) (v : Value) → hide_effect (giver_shares m a q (hide v)) ≡ hide_effect (giver_shares m a q v)
  unfolding giver_shares
  giver_hide a Nothing = refl
  giver_hide a (Clear i l) = refl
  giver_hide a (Share i h l) = refl

  share_hide : (w : View) (a : Party) (v : Value) → hide_effect (at_share w m a q (hide v)) ≡ hide_effect (at_share w m a q v)
  unfolding at_share
  share_hide Whole a v = giver_hide a v
  share_hide (Site P) a v = go (eqb P.index a.index)
    where
      go : (t : Bool) → hide_effect (cond t (giver_shares m a q (hide v)) (other_shares m a q)) ≡ hide_effect (cond t (giver_shares m a q v) (other_shares m a q))
      go true = giver_hide a v
      go false = refl

  opens_hide : (v : Value) → hide_effect (holder_opens m q (hide v)) ≡ hide_effect (holder_opens m q v)
  unfolding holder_opens
  opens_hide Nothing = refl
  opens_hide (Clear i l) = refl
  opens_hide (Share i h l) = unless_hide (same_set l h) (same_set (join h q) m) (Revealing q) _ _

  reveal_hide : (w : View) (v : Value) → hide_effect (at_reveal w m q (hide v)) ≡ hide_effect (at_reveal w m q v)
  unfolding at_reveal
  reveal_hide Whole v = opens_hide v
  reveal_hide (Site P) Nothing = refl
  reveal_hide (Site P) (Clear i l) = refl
  reveal_hide (Site P) (Share i h l) = opens_hide (Share i h l)

-- ---- all thirteen

nth_hide : (vs : List Value) (n : ℕ) → get_or (map hide vs) n Nothing ≡ hide (get_or vs n Nothing)
nth_hide = nth_on hide refl

module _ (w : View) (m : PartySet) where
  judge_hide : (e : Node) (vs : List Value) → hide_effect (judge w e m (map hide vs)) ≡ hide_effect (judge w e m vs)
  unfolding judge
  judge_hide (VAR x) vs = simp (nth_hide, hide_hide)
  judge_hide (INT i) vs = refl
  judge_hide (OP o x y) vs = simp (nth_hide, hide_held_lem) (two_hide m (operate (operation_of o)) (held m (first vs)) (held m (second vs)))
  judge_hide (MUX x y z) vs = simp (nth_hide, hide_held_lem) (three_hide m mux (held m (first vs)) (held m (second vs)) (held m (third vs)))
  judge_hide READ vs = refl
  judge_hide (WRITE x) vs = simp (nth_hide, hide_held_lem, clear_hide)
  judge_hide (EMBED x) vs = simp (nth_hide, hide_held_lem, clear_hide)
  judge_hide (SHARE a q x) vs = simp nth_hide (share_hide m q w a (first vs))
  judge_hide (REVEAL q x) vs = simp nth_hide (reveal_hide m q w (first vs))
  judge_hide (LET x e1 e2) vs = refl
  judge_hide (CASE x e1 e2) vs = simp (nth_hide, hide_held_lem, clear_hide)
  judge_hide (PAR p e) vs = refl
  judge_hide (CALL f x) vs = simp (nth_hide, hide_hide)

  -- with the numbers of shares hidden in its names, a rule does the same, but for such numbers
  pub rule_hide : (e : Node) (b : Names) → hide_effect (rule w e m (on_names hide b)) ≡ hide_effect (rule w e m b)
  unfolding rule
  rule_hide e b = rw (look_all_on hide m (hide_restrict m) b (names_of e)) (go (look_all m b (names_of e)))
    where
      go : (r : Looked) → hide_effect (with_values (on_looked hide r) λ vs. judge w e m vs) ≡ hide_effect (with_values r λ vs. judge w e m vs)
      go (found vs) = judge_hide e vs
      go (unbound x) = refl
