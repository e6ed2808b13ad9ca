-- What a rule can ask for, kind by kind. What holds of the refusals 5 to 7 and of what its kind can ask for holds of the rule. Assumes nothing.
use Rattle.std.specs.Prelude.{ℕ, ◌≡◌, Bool, cond, ◌&&◌, List, eqb, ℤ, pos, Option, Some, None}
use Rattle.std.proofs.Math.Path.{refl, ap}
use Rattle.std.proofs.Common.{◌∙◌, eqb-true}
use Rattle.std.proofs.Math.Bool.{true, false}
use Rattle.std.specs.Bool.{beq}
use Rattle.numbers.specs.Integers.{operate, operation_of, same_integer}
use Rattle.parties.specs.Sets.{member, same_set, join, meet, only, make_up, count}
use Rattle.limits.specs.declared.Party.{Party}
use Rattle.limits.specs.declared.Name.{Name}
use Rattle.parties.specs.declared.sets.PartySet.{PartySet}
use Rattle.values.specs.Values.{held, had_by}
use Rattle.values.specs.declared.value.Value.{Value}
use Rattle.values.specs.declared.value.Value.TheVariants.{Nothing, Clear, Share}
use Rattle.values.specs.declared.value.Held.{Held}
use Rattle.nodes.specs.declared.Node.{Node}
use Rattle.nodes.specs.declared.Node.TheVariants.{VAR, INT, OP, MUX, READ, WRITE, EMBED, SHARE, REVEAL, LET, CASE, PAR, CALL}
use Rattle.refusals.specs.declared.Refusal.{Refusal}
use Rattle.refusals.specs.declared.Refusal.TheVariants.{NameUnbound, WrongValue, WrongMode}
use Rattle.rules.specs.Names.{Names, Looked, found, unbound, look_all, names_of, first, second, third}
use Rattle.rules.specs.Rules.{unless, hands_back, on_two, on_three, mux, if_clear, alone, giver_shares, other_shares, at_share, holder_opens, at_reveal, goes_in, judge, with_values, rule}
use Rattle.rules.specs.declared.effects.View.{View}
use Rattle.rules.specs.declared.effects.View.TheVariants.{Whole, Site}
use Rattle.rules.specs.declared.effects.Move.TheVariants.{Down, Goto, Enter, Call}
use Rattle.rules.specs.declared.effects.Meeting.TheVariants.{Sharing, Revealing}
use Rattle.rules.specs.declared.effects.Offer.TheVariants.{Empty, Secret}
use Rattle.rules.specs.declared.effects.Effect.{Effect}
use Rattle.rules.specs.declared.effects.Effect.TheVariants.{Refuse, Goes, Reads, Writes, Meets}

-- what only a site is asked for
abbrev pub AtSite : View → Type 0 → Type 0
AtSite Whole X = Unit {0}
AtSite (Site P) X = X

-- H holds of all that a node can ask for besides a refusal, where its names have these values
abbrev pub OfKind : View → PartySet → (Effect → Type 0) → List Value → Node → Type 0
OfKind w m H vs (VAR x) = H (hands_back (first vs))
OfKind w m H vs (INT i) = H (hands_back (Clear i m))
OfKind w m H vs (OP o x y) = (s : Bool) (i j : ℤ) → H (hands_back (had_by m s (operate (operation_of o) i j)))
OfKind w m H vs (MUX x y z) =
    (a b c : Held) → held m (first vs) ≡ Some a → held m (second vs) ≡ Some b → held m (third vs) ≡ Some c → H (hands_back (had_by m a.secret (mux a.number b.number c.number)))
OfKind w m H vs READ = count m ≡ 1 → H Reads
OfKind w m H vs (WRITE x) = (i : ℤ) → held m (first vs) ≡ Some (record { secret = false; number = i }) → H (Writes i)
OfKind w m H vs (EMBED x) = (i : ℤ) → held m (first vs) ≡ Some (record { secret = false; number = i }) → H (hands_back (Share i m m))
OfKind w m H vs (SHARE a q x) =
    ((i : ℤ) (l : PartySet) → first vs ≡ Clear i l → make_up a.index q m ≡ true → H (Meets (Sharing a q) (Secret i (only a.index))))
    × AtSite w (make_up a.index q m ≡ true → H (Meets (Sharing a q) Empty))
OfKind w m H vs (REVEAL q x) =
    ((i : ℤ) (h l : PartySet) → first vs ≡ Share i h l → same_set (join h q) m ≡ true → H (Meets (Revealing q) (Secret i h))) × AtSite w (H (Meets (Revealing q) Empty))
OfKind w m H vs (LET x e1 e2) = H (Goes (Down x e1 e2))
OfKind w m H vs (CASE x e1 e2) = (t : Bool) → H (Goes (Goto (cond t e2 e1)))
OfKind w m H vs (PAR p e) = (goes_in w m p ≡ true → H (Goes (Enter (meet m p) e))) × H (hands_back Nothing)
OfKind w m H vs (CALL f x) = H (Goes (Call f (first vs)))

pub at_site : (w : View) {X : Type 0} → X → AtSite w X
at_site Whole x = tt
at_site (Site P) x = x

module _ (m : PartySet) (H : Effect → Type 0) (value : H (Refuse WrongValue)) (mode : H (Refuse WrongMode)) where
  -- a test, after which the refusal or the effect follows
  unless_holds : (refusal : Refusal) (t : Bool) (e : Effect) → H (Refuse refusal) → (t ≡ true → H e) → H (unless refusal t e)
  unless_holds refusal true e r h = h refl
  unless_holds refusal false e r h = r

  two_holds : (f : ℤ → ℤ → ℤ) (x y : Option Held) → ((s : Bool) (i j : ℤ) → H (hands_back (had_by m s (f i j)))) → H (on_two m f x y)
  two_holds f (Some x) (Some y) k = unless_holds WrongValue (beq x.secret y.secret) _ value (λ e. k x.secret x.number y.number)
  two_holds f (Some x) None k = value
  two_holds f None y k = value

  three_holds : (f : ℤ → ℤ → ℤ → ℤ) (x y z : Option Held)
      → ((a b c : Held) → x ≡ Some a → y ≡ Some b → z ≡ Some c → H (hands_back (had_by m a.secret (f a.number b.number c.number)))) → H (on_three m f x y z)
  three_holds f (Some a) (Some b) (Some c) l = unless_holds WrongValue (beq a.secret b.secret && beq a.secret c.secret) _ value (λ e. l a b c refl refl refl)
  three_holds f (Some a) (Some b) None l = value
  three_holds f (Some a) None z l = value
  three_holds f None y z l = value

  clear_holds : (x : Option Held) (k : ℤ → Effect) → ((i : ℤ) → x ≡ Some (record { secret = false; number = i }) → H (k i)) → H (if_clear x k)
  clear_holds None k h = value
  clear_holds (Some a) k h = go a.secret refl
    where
      go : (s : Bool) → a.secret ≡ s → H (cond s (Refuse WrongValue) (k a.number))
      go true e = value
      go false e = h a.number (ap (λ (s : Bool). Some (record { secret = s; number = a.number })) e)

  module _ (a : Party) (q : PartySet) where
    giver_holds : (v : Value) → ((i : ℤ) (l : PartySet) → v ≡ Clear i l → make_up a.index q m ≡ true → H (Meets (Sharing a q) (Secret i (only a.index))))
        → H (giver_shares m a q v)
    unfolding giver_shares
    giver_holds Nothing k = value
    giver_holds (Clear i l) k =
        unless_holds WrongValue (member a.index l) _ value (λ e. unless_holds WrongMode (make_up a.index q m) _ mode (λ f. k i l refl f))
    giver_holds (Share i h l) k = value

    share_holds : (w : View) (v : Value) (x : Name) (vs : List Value) → first vs ≡ v → OfKind w m H vs (SHARE a q x) → H (at_share w m a q v)
    unfolding at_share other_shares
    share_holds Whole v x vs e k = giver_holds v (λ i l f. k.0 i l (e ∙ f))
    share_holds (Site P) v x vs e k = go (eqb P.index a.index)
      where
        go : (t : Bool) → H (cond t (giver_shares m a q v) (other_shares m a q))
        go true = giver_holds v (λ i l f. k.0 i l (e ∙ f))
        go false = unless_holds WrongMode (make_up a.index q m) _ mode k.1

  module _ (q : PartySet) where
    opens_holds : (v : Value) → ((i : ℤ) (h l : PartySet) → v ≡ Share i h l → same_set (join h q) m ≡ true → H (Meets (Revealing q) (Secret i h))) → H (holder_opens m q v)
    unfolding holder_opens
    opens_holds Nothing k = value
    opens_holds (Clear i l) k = value
    opens_holds (Share i h l) k =
        unless_holds WrongValue (same_set l h) _ value (λ e. unless_holds WrongMode (same_set (join h q) m) _ mode (λ f. k i h l refl f))

    reveal_holds : (w : View) (v : Value) (x : Name) (vs : List Value) → first vs ≡ v → OfKind w m H vs (REVEAL q x) → H (at_reveal w m q v)
    unfolding at_reveal
    reveal_holds Whole v x vs e k = opens_holds v (λ i h l f. k.0 i h l (e ∙ f))
    reveal_holds (Site P) Nothing x vs e k = unless_holds WrongMode (member P.index q) _ mode (λ f. k.1)
    reveal_holds (Site P) (Clear i l) x vs e k = opens_holds (Clear i l) (λ j h n f. k.0 j h n (e ∙ f))
    reveal_holds (Site P) (Share i h l) x vs e k = opens_holds (Share i h l) (λ j g n f. k.0 j g n (e ∙ f))

  par_holds : (t : Bool) (p : PartySet) (e : ℕ) → (t ≡ true → H (Goes (Enter (meet m p) e))) → H (hands_back Nothing) → H (cond t (Goes (Enter (meet m p) e)) (hands_back Nothing))
  par_holds true p e k h = k refl
  par_holds false p e k h = h

  judge_holds : (w : View) (e : Node) (vs : List Value) → OfKind w m H vs e → H (judge w e m vs)
  unfolding judge alone
  judge_holds w (VAR x) vs k = k
  judge_holds w (INT i) vs k = k
  judge_holds w (OP o x y) vs k = two_holds (operate (operation_of o)) (held m (first vs)) (held m (second vs)) k
  judge_holds w (MUX x y z) vs k = three_holds mux (held m (first vs)) (held m (second vs)) (held m (third vs)) k
  judge_holds w READ vs k = unless_holds WrongMode (alone m) Reads mode (λ e. k (eqb-true (count m) 1 e))
  judge_holds w (WRITE x) vs k = clear_holds (held m (first vs)) _ (λ i h. unless_holds WrongMode (alone m) (Writes i) mode (λ e. k i h))
  judge_holds w (EMBED x) vs k = clear_holds (held m (first vs)) _ k
  judge_holds w (SHARE a q x) vs k = share_holds a q w (first vs) x vs refl k
  judge_holds w (REVEAL q x) vs k = reveal_holds q w (first vs) x vs refl k
  judge_holds w (LET x e1 e2) vs k = k
  judge_holds w (CASE x e1 e2) vs k = clear_holds (held m (first vs)) _ (λ i h. k (same_integer i (pos 0)))
  judge_holds w (PAR p e) vs k = par_holds (goes_in w m p) p e k.0 k.1
  judge_holds w (CALL f x) vs k = k

  pub rule_holds : (w : View) (e : Node) (b : Names) → H (Refuse NameUnbound) → ((vs : List Value) → look_all m b (names_of e) ≡ found vs → OfKind w m H vs e) → H (rule w e m b)
  unfolding rule
  rule_holds w e b unknown k = go (look_all m b (names_of e)) refl
    where
      go : (r : Looked) → look_all m b (names_of e) ≡ r → H (with_values r λ vs. judge w e m vs)
      go (found vs) f = judge_holds w e vs (k vs f)
      go (unbound x) f = unknown
