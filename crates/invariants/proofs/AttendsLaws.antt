-- A site that is at a meeting: where it stands, and which meeting it is. Assumes nothing.
use Prim.Native.Nat.{ℕ}
use mathlib.Core.Path.{◌≡◌, refl, ◌∙◌, sym, ap}
use mathlib.Core.Bool.{Bool, true, false, cond, ◌&&◌, false≢true, and-eq-true_iff}
use mathlib.Core.List.{List}
use mathlib.Core.Option.{some}
use borrow.Author.Tests.{eqb-true}
use lib.Dec.{eqb}
use lib.IntN.{pos}
use Rattle.parties.specs.Sets.{same_set}
use Rattle.parties.specs.SetLaws.{same_set_lem}
use Rattle.parties.specs.declared.sets.PartySet.{PartySet}
use Rattle.program.specs.Check.{node_at}
use Rattle.refusals.specs.Numbers.{no_room}
use Rattle.values.specs.declared.value.Value.{Value}
use Rattle.nodes.specs.declared.Node.{Node}
use Rattle.nodes.specs.declared.Node.TheVariants.{VAR, INT, OP, MUX, READ, WRITE, EMBED, SHARE, REVEAL, LET, CASE, PAR, CALL}
use Rattle.rules.specs.Rules.{rule, joint_meeting}
use Rattle.rules.specs.RuleLaws.{OfKind, rule_holds}
use Rattle.rules.specs.Moves.{Control}
use Rattle.rules.specs.Books.{Book, event_of, room_for}
use Rattle.rules.specs.Single.{Setting}
use Rattle.rules.specs.Joint.{Site, running, stop, acts, attends, Own, perform_own, site, own, Attendance, away, attending, attendance, is_there}
use Rattle.rules.specs.declared.effects.Meeting.{Meeting}
use Rattle.rules.specs.declared.effects.Offer.{Offer}
use Rattle.rules.specs.declared.effects.Effect.{Effect}
use Rattle.rules.specs.declared.effects.Effect.TheVariants.{Refuse, Goes, Reads, Writes, Meets}

-- an effect is no meeting, or the node's
abbrev MeetsAt : Node → Effect → Type 0
MeetsAt e (Refuse refusal) = Unit {0}
MeetsAt e (Goes mv) = Unit {0}
MeetsAt e Reads = Unit {0}
MeetsAt e (Writes i) = Unit {0}
MeetsAt e (Meets mt o) = joint_meeting e ≡ some mt

kind_meets : (P : ℕ) (m : PartySet) (vs : List Value) (e : Node) → OfKind (site P) m (MeetsAt e) vs e
kind_meets P m vs (VAR x) = tt
kind_meets P m vs (INT i) = tt
kind_meets P m vs (OP o x y) = λ s i j. tt
kind_meets P m vs (MUX x y z) = λ a b c f g h. tt
kind_meets P m vs READ = λ one. tt
kind_meets P m vs (WRITE x) = λ i h. tt
kind_meets P m vs (EMBED x) = λ i h. tt
kind_meets P m vs (SHARE a q x) = (λ i l f g. refl, λ g. refl)
kind_meets P m vs (REVEAL q x) = (λ i h l f g. refl, refl)
kind_meets P m vs (LET x e1 e2) = tt
kind_meets P m vs (CASE x e1 e2) = λ t. tt
kind_meets P m vs (PAR p e) = (λ inside. tt, tt)
kind_meets P m vs (CALL f x) = tt

module _ (S : Setting) (P : ℕ) (c : Control) (b : Book) where
  -- who attends, attends the meeting of its node
  pub attends_at : (mt : Meeting) (o : Offer) → own S P c b ≡ attends mt o → joint_meeting (node_at S.program c.node) ≡ some mt
  unfolding own perform_own
  attends_at mt o w =
      go (rule (site P) e c.mode c.names) (rule_holds c.mode (MeetsAt e) tt tt (site P) e c.names tt (λ vs f. kind_meets P c.mode vs e)) w
    where
      e : Node
      e = node_at S.program c.node

      fits : (t : Bool) (mt' : Meeting) (y : Offer) (s : Site) → cond t (attends mt' y) (acts s) ≡ attends mt o → mt' ≡ mt
      fits true mt' y s q = cc
      fits false mt' y s q = cc

      go : (f : Effect) → MeetsAt e f → perform_own S P c b f ≡ attends mt o → joint_meeting e ≡ some mt
      go (Refuse k) f q = cc
      go (Goes mv) f q = cc
      go Reads f q = cc
      go (Writes i) f q = cc
      go (Meets mt' y) f q = f ∙ ap some (fits (room_for S.room P (some (event_of mt' (pos 0))) b) mt' y (stop no_room c.node b) q)

there_if : (t : Bool) (a : Attendance) → is_there (cond t a away) ≡ true → (t ≡ true) × (is_there a ≡ true)
there_if true a e = (refl, e)
there_if false a e = absurd (false≢true e)

-- it stands at that node, in that mode
pub there_same : (S : Setting) (e : ℕ) (m : PartySet) (P : ℕ) (c : Control) (b : Book) → is_there (attendance S e m P (running c b)) ≡ true → (c.node ≡ e) × (c.mode ≡ m)
unfolding attendance
there_same S e m P c b r =
    let both = (and-eq-true_iff (eqb c.node e) (same_set c.mode m)).0 (there_if _ _ r).0 in
    (eqb-true c.node e both.0, same_set_lem c.mode m both.1)

-- and attends the meeting of that node
pub there_attends : (S : Setting) (e : ℕ) (m : PartySet) (P : ℕ) (c : Control) (b : Book) (mt : Meeting) → joint_meeting (node_at S.program e) ≡ some mt → is_there (attendance S e m P (running c b)) ≡ true
    → (o : Offer) × (own S P c b ≡ attends mt o)
unfolding attendance
there_attends S e m P c b mt k r = go (own S P c b) refl (there_if (eqb c.node e && same_set c.mode m) (attending (own S P c b)) r).1
  where
    go : (x : Own) → own S P c b ≡ x → is_there (attending x) ≡ true → (o : Offer) × (own S P c b ≡ attends mt o)
    go (acts s) q h = absurd (false≢true h)
    go (attends mt' o) q h =
        let same : some mt' ≡ some mt = sym (attends_at S P c b mt' o q) ∙ ap (λ (x : ℕ). joint_meeting (node_at S.program x)) (there_same S e m P c b r).0 ∙ k in
        let one : mt' ≡ mt = cc in (o, q ∙ ap (λ (x : Meeting). attends x o) one)
