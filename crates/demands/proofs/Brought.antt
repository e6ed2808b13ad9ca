-- SHARE and REVEAL at one site, where the single run takes them: each member brings the secret if it is one of its holders,
-- and some member of the mode is one. Assumes nothing.
use Rattle.std.specs.Prelude.{Option, Some, None, option_map}
use Prim.Native.Nat.{ℕ}
use mathlib.Core.Path.{◌≡◌, refl, sym, ap, ap₂, ◌∙◌, subst}
use mathlib.Core.Bool.{Bool, true, false, cond, false≢true}
use mathlib.Core.List.{List, [], ◌∷◌, map}
use native.Mathlib.Omega.{arith}
use borrow.Author.Tests.{eqb-true, eq-eqb}
use lib.Dec.{eqb}
use lib.IntN.{ℤ}
use lib.ListN.{get_or}
use Rattle.parties.specs.Sets.{member, meet, join, is_empty, same_set, only, make_up}
use Rattle.parties.specs.SetLaws.{member_join, member_only, same_set_lem, same_self, some_member}
use Rattle.limits.specs.declared.Name.{Name}
use Rattle.limits.specs.declared.Party.{Party}
use Rattle.parties.specs.declared.sets.PartySet.{PartySet}
use Rattle.values.specs.Values.{place, moved, restrict, slice}
use Rattle.values.specs.declared.value.Value.{Value}
use Rattle.values.specs.declared.value.Value.TheVariants.{Nothing, Clear, Share}
use Rattle.nodes.specs.declared.Node.{Node}
use Rattle.nodes.specs.declared.Node.TheVariants.{VAR, INT, OP, MUX, READ, WRITE, EMBED, SHARE, REVEAL, LET, CASE, PAR, CALL}
use Rattle.refusals.specs.declared.Refusal.{Refusal}
use Rattle.refusals.specs.declared.Refusal.TheVariants.{WrongValue, WrongMode}
use Rattle.rules.specs.Names.{Names, look, Looked, found, unbound, before, look_all, names_of, first}
use Rattle.rules.specs.Rules.{unless, giver_shares, other_shares, at_share, holder_opens, at_reveal, judge, with_values, rule}
use Rattle.rules.specs.Joint.{site}
use Rattle.rules.specs.declared.effects.View.TheVariants.{Whole}
use Rattle.rules.specs.declared.effects.Meeting.{Meeting}
use Rattle.rules.specs.declared.effects.Meeting.TheVariants.{Sharing, Revealing}
use Rattle.rules.specs.declared.effects.Offer.{Offer}
use Rattle.rules.specs.declared.effects.Offer.TheVariants.{Empty, Secret}
use Rattle.rules.specs.declared.effects.Effect.TheVariants.{Refuse, Meets}
use Rattle.invariants.specs.Changes.{on_names}
use Rattle.demands.specs.Rounds.{is_joint}
use Rattle.demands.proofs.Sliced.{look_all_slice, nth_slice}

-- what a member brings: the secret, if it is one of its holders
abbrev pub bring : ℕ → ℤ → PartySet → Offer
bring P i h = cond (member P h) (Secret i h) Empty

-- a joint node is SHARE or REVEAL
data JointNode : Node → Type 0 where
  shares : (a : Party) (q : PartySet) (x : Name) → JointNode (SHARE a q x)
  reveals : (q : PartySet) (x : Name) → JointNode (REVEAL q x)

joint : (e : Node) → is_joint e ≡ true → JointNode e
joint (SHARE a q x) j = shares a q x
joint (REVEAL q x) j = reveals q x
joint (VAR x) j = absurd (false≢true j)
joint (INT i) j = absurd (false≢true j)
joint (OP o x y) j = absurd (false≢true j)
joint (MUX x y z) j = absurd (false≢true j)
joint READ j = absurd (false≢true j)
joint (WRITE x) j = absurd (false≢true j)
joint (EMBED x) j = absurd (false≢true j)
joint (LET x e1 e2) j = absurd (false≢true j)
joint (CASE x e1 e2) j = absurd (false≢true j)
joint (PAR p e1) j = absurd (false≢true j)
joint (CALL f x) j = absurd (false≢true j)

-- ---- what the single run saw there

never : {A : Type 0} {k : Refusal} {mt : Meeting} {o : Offer} → Refuse k ≡ Meets mt o → A
never e = let z : ◌≡◌ {A = ℕ} 0 1 = cc in absurd (omega arith)

record Gave (m : PartySet) (a : Party) (q : PartySet) (v : Value) (mt : Meeting) (i : ℤ) (h : PartySet) : Type 0 where
  l : PartySet
  is : v ≡ Clear i l
  has : member a.index l ≡ true
  fits : make_up a.index q m ≡ true
  what : Sharing a q ≡ mt
  who : only a.index ≡ h

gave : (m : PartySet) (a : Party) (q : PartySet) (v : Value) (mt : Meeting) (i : ℤ) (h : PartySet) → giver_shares m a q v ≡ Meets mt (Secret i h) → Gave m a q v mt i h
unfolding giver_shares
gave m a q Nothing mt i h e = never e
gave m a q (Share j k l) mt i h e = never e
gave m a q (Clear j l) mt i h e = go (member a.index l) (make_up a.index q m) refl refl e
  where
    go : (t u : Bool) → member a.index l ≡ t → make_up a.index q m ≡ u
        → unless WrongValue t (unless WrongMode u (Meets (Sharing a q) (Secret j (only a.index)))) ≡ Meets mt (Secret i h) → Gave m a q (Clear j l) mt i h
    go true true s f e = record { l = l; is = let n : j ≡ i = cc in rw n; has = s; fits = f; what = cc; who = cc }
    go true false s f e = never e
    go false u s f e = never e

record Opens (m : PartySet) (q : PartySet) (v : Value) (mt : Meeting) (i : ℤ) (h : PartySet) : Type 0 where
  is : v ≡ Share i h h
  fits : join h q ≡ m
  what : Revealing q ≡ mt

opens : (m : PartySet) (q : PartySet) (v : Value) (mt : Meeting) (i : ℤ) (h : PartySet) → holder_opens m q v ≡ Meets mt (Secret i h) → Opens m q v mt i h
unfolding holder_opens
opens m q Nothing mt i h e = never e
opens m q (Clear j l) mt i h e = never e
opens m q (Share j k l) mt i h e = go (same_set l k) (same_set (join k q) m) refl refl e
  where
    go : (t u : Bool) → same_set l k ≡ t → same_set (join k q) m ≡ u
        → unless WrongValue t (unless WrongMode u (Meets (Revealing q) (Secret j k))) ≡ Meets mt (Secret i h) → Opens m q (Share j k l) mt i h
    go true true s f e =
        let n : j ≡ i = cc in
        let w : k ≡ h = cc in
        record { is = rw (same_set_lem l k s, n, w); fits = rw (← w) (same_set_lem (join k q) m f); what = cc }
    go true false s f e = never e
    go false u s f e = never e

-- the values of the names, and the judgement on them
record Judged (m : PartySet) (e : Node) (b : Names) (mt : Meeting) (i : ℤ) (h : PartySet) : Type 0 where
  vs : List Value
  looked : look_all m b (names_of e) ≡ found vs
  judged : judge Whole e m vs ≡ Meets mt (Secret i h)

judged : (m : PartySet) (e : Node) (b : Names) (mt : Meeting) (i : ℤ) (h : PartySet) → rule Whole e m b ≡ Meets mt (Secret i h) → Judged m e b mt i h
unfolding rule
judged m e b mt i h = go (look_all m b (names_of e)) refl
  where
    go : (l : Looked) → look_all m b (names_of e) ≡ l → with_values l (λ vs. judge Whole e m vs) ≡ Meets mt (Secret i h) → Judged m e b mt i h
    go (found vs) q k = record { vs = vs; looked = q; judged = k }
    go (unbound x) q k = never k

-- ---- the same at a member

module _ (P : ℕ) (m : PartySet) (inside : member P m ≡ true) where
  giver_brings : (a : Party) (q : PartySet) (i : ℤ) (l : PartySet) → member a.index l ≡ true → make_up a.index q m ≡ true
      → at_share (site P) m a q (slice P (Clear i l)) ≡ Meets (Sharing a q) (bring P i (only a.index))
  unfolding at_share other_shares giver_shares slice place
  giver_brings a q i l ha hm = rw (member_only P a.index, hm) (go (eqb P a.index) refl)
    where
      go : (t : Bool) → eqb P a.index ≡ t
          → cond t (giver_shares m a q (cond (member P l) (Clear i l) Nothing)) (Meets (Sharing a q) Empty) ≡ Meets (Sharing a q) (cond t (Secret i (only a.index)) Empty)
      go true e =
          let p : member P l ≡ true = ap (λ (x : ℕ). member x l) (eqb-true P a.index e) ∙ ha in
          rw (p, ha, hm)
      go false e = refl

  holder_brings : (q : PartySet) (i : ℤ) (h : PartySet) → join h q ≡ m
      → at_reveal (site P) m q (slice P (Share i h h)) ≡ Meets (Revealing q) (bring P i h)
  unfolding at_reveal holder_opens slice place
  holder_brings q i h hm = go (member P h) refl
    where
      go : (t : Bool) → member P h ≡ t → at_reveal (site P) m q (cond t (Share i h h) Nothing) ≡ Meets (Revealing q) (cond t (Secret i h) Empty)
      go true e = rw (same_self h, hm, same_self m)
      go false e =
          let p : member P q ≡ true = rw e at (sym (member_join P h q) ∙ ap (member P) hm ∙ inside) in
          rw p

  judge_met : {e : Node} → JointNode e → (vs : List Value) (mt : Meeting) (i : ℤ) (h : PartySet) → judge Whole e m vs ≡ Meets mt (Secret i h)
      → judge (site P) e m (map (slice P) vs) ≡ Meets mt (bring P i h)
  unfolding judge at_share at_reveal
  judge_met (shares a q x) vs mt i h e =
      let g = gave m a q (first vs) mt i h e in
      rw (nth_slice P vs 0, g.is) (giver_brings a q i g.l g.has g.fits ∙ ap₂ (λ (x : Meeting) (k : PartySet). Meets x (bring P i k)) g.what g.who)
  judge_met (reveals q x) vs mt i h e =
      let g = opens m q (first vs) mt i h e in
      rw (nth_slice P vs 0, g.is) (holder_brings q i h g.fits ∙ ap (λ (x : Meeting). Meets x (bring P i h)) g.what)

  -- where the single run meets, each member is there by its own slices and brings the secret, or nothing
  pub meets_slice : (e : Node) (b : Names) (mt : Meeting) (i : ℤ) (h : PartySet) → is_joint e ≡ true → rule Whole e m b ≡ Meets mt (Secret i h)
      → rule (site P) e m (on_names (slice P) b) ≡ Meets mt (bring P i h)
  unfolding rule
  meets_slice e b mt i h j k =
      let g = judged m e b mt i h k in
      rw (look_all_slice P m inside b (names_of e), g.looked) (judge_met (joint e j) g.vs mt i h g.judged)

-- ---- somebody of the mode brings the secret

abbrev Full : Value → Type 0
Full Nothing = Unit {0}
Full (Clear i l) = is_empty l ≡ false
Full (Share i h l) = is_empty l ≡ false

abbrev FullLooked : Looked → Type 0
FullLooked (found vs) = Full (first vs)
FullLooked (unbound x) = Unit {0}

moved_full : (l : PartySet) (v : Value) → is_empty l ≡ false → Full (moved l v)
unfolding moved
moved_full l Nothing e = tt
moved_full l (Clear i k) e = e
moved_full l (Share i h k) e = e

restrict_full : (m : PartySet) (v : Value) → Full (restrict m v)
unfolding restrict
restrict_full m v = go (is_empty (meet (place v) m)) refl
  where
    go : (t : Bool) → is_empty (meet (place v) m) ≡ t → Full (cond t Nothing (moved (meet (place v) m) v))
    go true e = tt
    go false e = moved_full (meet (place v) m) v e

looked_full : (m : PartySet) (b : Names) (x : Name) → FullLooked (look_all m b (x ∷ []))
unfolding look_all look
looked_full m b x = go (get_or b x.index None)
  where
    go : (u : Option Value) → FullLooked (before x (option_map (restrict m) u) (found []))
    go None = tt
    go (Some v) = restrict_full m v

in_left : (a q m : PartySet) (Q : ℕ) → join a q ≡ m → member Q a ≡ true → member Q m ≡ true
in_left a q m Q e h = ap (member Q) (sym e) ∙ member_join Q a q ∙ rw h

pub somebody : (m : PartySet) (e : Node) (b : Names) (mt : Meeting) (i : ℤ) (h : PartySet) → is_joint e ≡ true → rule Whole e m b ≡ Meets mt (Secret i h)
    → (Q : ℕ) × (member Q h ≡ true) × (member Q m ≡ true)
somebody m e b mt i h j k = let g = judged m e b mt i h k in go (joint e j) g.vs g.looked g.judged
  where
    go : {e : Node} → JointNode e → (vs : List Value) → look_all m b (names_of e) ≡ found vs → judge Whole e m vs ≡ Meets mt (Secret i h)
        → (Q : ℕ) × (member Q h ≡ true) × (member Q m ≡ true)
    go (shares a q x) vs l d =
        let g = gave m a q (first vs) mt i h (unfold judge at_share in d) in
        let t : member a.index (only a.index) ≡ true = member_only a.index a.index ∙ eq-eqb a.index a.index refl in
        (a.index, ap (member a.index) (sym g.who) ∙ t, in_left (only a.index) q m a.index (sym (same_set_lem m (join (only a.index) q) (unfold make_up in g.fits))) t)
    go (reveals q x) vs l d =
        let g = opens m q (first vs) mt i h (unfold judge at_reveal in d) in
        let f : Full (first vs) = subst FullLooked l (unfold names_of in looked_full m b x) in
        let (Q, t) = some_member h (rw g.is at f) in
        (Q, t, in_left h q m Q g.fits t)
