-- What a turn of any party does to one site, and which sites a turn can touch. Assumes nothing.
use Prim.Native.Nat.{ℕ}
use mathlib.Core.Path.{◌≡◌, refl, ap, ◌∙◌, subst}
use mathlib.Core.Bool.{Bool, true, false, cond}
use mathlib.Core.List.{List, [], ◌∷◌}
use borrow.Author.Tests.{eqb-true}
use lib.Dec.{eqb}
use lib.IntN.{ℤ}
use Rattle.parties.specs.Sets.{member}
use Rattle.parties.specs.declared.sets.PartySet.{PartySet}
use Rattle.refusals.specs.Numbers.{disagreement}
use Rattle.rules.specs.Moves.{Control}
use Rattle.rules.specs.Books.{Book}
use Rattle.rules.specs.Single.{Setting, all_of}
use Rattle.rules.specs.Joint.{Site, running, over, stop, Own, acts, attends, own, Sites, Attendance, attendance, is_there, all_agree, joins_by, joins, parts, put, put_all, concluded, meeting, turn_own, turn_at, turn, run_turns}
use Rattle.rules.specs.declared.effects.Meeting.{Meeting}
use Rattle.rules.specs.declared.effects.Offer.{Offer}
use Rattle.rules.specs.declared.effects.Offer.TheVariants.{Empty, Secret}
use Rattle.invariants.specs.Begins.{Begins}
use Rattle.invariants.specs.Sites.{events_of, takes_part}
use Rattle.invariants.proofs.BeginsLaws.{begins_refl, begins_trans}
use Rattle.invariants.proofs.MeetingLaws.{meeting_each}
use Rattle.invariants.proofs.Grows.{own_adds, own_adds_lem, settle_adds, stop_adds}

-- site P goes from s to s': not at all, by itself, in a meeting, or out of one with 11
pub data Passes (S : Setting) (P : ℕ) (s s' : Site) : Type 0 where
  same : s' ≡ s → Passes S P s s'
  alone : (c : Control) (b : Book) → s ≡ running c b → own S P c b ≡ acts s' → Passes S P s s'
  together : (c : Control) (b : Book) (mt : Meeting) (o : Offer) (i : ℤ)
      → s ≡ running c b → own S P c b ≡ attends mt o → s' ≡ takes_part S P c b mt i → Passes S P s s'
  apart : (c : Control) (b : Book) → s ≡ running c b → s' ≡ stop disagreement c.node b → Passes S P s s'

module _ (S : Setting) where
  joins_passes : (i : ℤ) (P : ℕ) (s : Site) → Passes S P s (joins S i P s)
  unfolding joins joins_by
  joins_passes i P (running c b) = go (own S P c b) refl
    where
      go : (w : Own) → own S P c b ≡ w → Passes S P (running c b) (joins_by S i P c b w)
      go (acts s) e = same refl
      go (attends mt o) e = together c b mt o i refl e refl
  joins_passes i P (over f b) = same refl

  parts_passes : (P : ℕ) (s : Site) → Passes S P s (parts P s)
  unfolding parts
  parts_passes P (running c b) = apart c b refl refl
  parts_passes P (over f b) = same refl

  meeting_passes : (e : ℕ) (m : PartySet) (mt : Meeting) (J : Sites) (P : ℕ) → Passes S P (J P) ((meeting S e m mt J).sites P)
  meeting_passes e m mt J P = meeting_each S (Passes S) (λ Q s. same refl) parts_passes J e m mt (λ i h q. joins_passes i) P

  -- whoever has the turn, each site passes
  pub turn_passes : (Q : ℕ) (J : Sites) (P : ℕ) → Passes S P (J P) ((turn S Q J).sites P)
  unfolding turn turn_at turn_own put
  turn_passes Q J P = at_site (J Q) refl
    where
      put_passes : (c : Control) (b : Book) (s : Site) → J Q ≡ running c b → own S Q c b ≡ acts s → (t : Bool) → eqb P Q ≡ t → Passes S P (J P) (cond t s (J P))
      put_passes c b s e h true p =
          let q : P ≡ Q = eqb-true P Q p in
          alone c b (ap J q ∙ e) (ap (λ (R : ℕ). own S R c b) q ∙ h)
      put_passes c b s e h false p = same refl

      own_passes : (c : Control) (b : Book) → J Q ≡ running c b → (w : Own) → own S Q c b ≡ w → Passes S P (J P) ((turn_own S Q c w J).sites P)
      own_passes c b e (acts s) h = put_passes c b s e h (eqb P Q) refl
      own_passes c b e (attends mt o) h = meeting_passes c.node c.mode mt J P

      at_site : (s : Site) → J Q ≡ s → Passes S P (J P) ((turn_at S Q s J).sites P)
      at_site (running c b) e = own_passes c b e (own S Q c b) refl
      at_site (over f b) e = same refl

  -- ---- what every passing keeps

  -- a record only grows
  pub passes_adds : (P : ℕ) (s s' : Site) → Passes S P s s' → Begins (events_of s) (events_of s')
  passes_adds P s s' (same e) = rw e (begins_refl (events_of s))
  passes_adds P s s' (alone c b e h) = rw e (subst (own_adds b) h (own_adds_lem S P c b))
  passes_adds P s s' (together c b mt o i e h e') = rw (e, e') (settle_adds S P c b _ _)
  passes_adds P s s' (apart c b e e') = rw (e, e') (stop_adds disagreement c.node b)

  pub turns_add : (P : ℕ) (ts : List ℕ) (J : Sites) → Begins (events_of (J P)) (events_of ((run_turns S ts J).sites P))
  unfolding run_turns
  turns_add P [] J = begins_refl (events_of (J P))
  turns_add P (Q ∷ ts) J = begins_trans (passes_adds P (J P) ((turn S Q J).sites P) (turn_passes Q J P)) (turns_add P ts (turn S Q J).sites)

  -- a site that is over stays so
  pub over_stays : (P : ℕ) (s s' : Site) (f : Bool) (b : Book) → Passes S P s s' → s ≡ over f b → s' ≡ s
  over_stays P s s' f b (same e) o = e
  over_stays P s s' f b (alone c d e w) o = cc
  over_stays P s s' f b (together c d mt x i e w e') o = cc
  over_stays P s s' f b (apart c d e e') o = cc

-- ---- whom a turn of Q touches besides Q

-- Q and all of its mode are there for a meeting, and X is in that mode
pub record Gathers (S : Setting) (Q : ℕ) (J : Sites) (X : ℕ) : Type 0 where
  pub c : Control
  pub b : Book
  pub mt : Meeting
  pub o : Offer
  pub at : J Q ≡ running c b
  pub waiting : own S Q c b ≡ attends mt o
  pub «in» : member X c.mode ≡ true
  pub all : all_of S.program.parties c.mode (λ Y. is_there (attendance S c.node c.mode Y (J Y))) ≡ true

pub data Touched (S : Setting) (Q : ℕ) (J : Sites) (X : ℕ) : Type 0 where
  not_at_all : (turn S Q J).sites X ≡ J X → Touched S Q J X
  itself : X ≡ Q → Touched S Q J X
  meeting_there : Gathers S Q J X → Touched S Q J X

module _ (S : Setting) where
  concluded_out : (m : PartySet) (mt : Meeting) (o : Offer) (f : ℕ → Attendance) (J : Sites) (X : ℕ) → member X m ≡ false → (concluded S m mt o f J).sites X ≡ J X
  unfolding concluded put_all
  concluded_out m mt Empty f J X e = refl
  concluded_out m mt (Secret i h) f J X e = go (all_agree mt S.program.parties m i h f)
    where
      go : (t : Bool) → cond t (put_all m (joins S i) J) (put_all m parts J) X ≡ J X
      go true = rw e
      go false = rw e

  -- a turn changes Q alone, or those at a meeting
  pub turn_touches : (Q : ℕ) (J : Sites) (X : ℕ) → Touched S Q J X
  unfolding turn turn_at turn_own meeting put
  turn_touches Q J X = at_site (J Q) refl
    where
      at_meeting : (c : Control) (b : Book) (mt : Meeting) (o : Offer) → J Q ≡ running c b → own S Q c b ≡ attends mt o
          → (t u : Bool) → member X c.mode ≡ t → all_of S.program.parties c.mode (λ Y. is_there (attendance S c.node c.mode Y (J Y))) ≡ u → Touched S Q J X
      at_meeting c b mt o e w true true i a = meeting_there (record { c = c; b = b; mt = mt; o = o; at = e; waiting = w; «in» = i; all = a })
      at_meeting c b mt o e w true false i a = not_at_all (rw (e, w, a))
      at_meeting c b mt o e w false true i a = not_at_all (rw (e, w, a) (concluded_out c.mode mt _ _ J X i))
      at_meeting c b mt o e w false false i a = not_at_all (rw (e, w, a))

      at_put : (c : Control) (b : Book) (s : Site) → J Q ≡ running c b → own S Q c b ≡ acts s → (t : Bool) → eqb X Q ≡ t → Touched S Q J X
      at_put c b s e w true p = itself (eqb-true X Q p)
      at_put c b s e w false p = not_at_all (rw (e, w, p))

      at_own : (c : Control) (b : Book) → J Q ≡ running c b → (w : Own) → own S Q c b ≡ w → Touched S Q J X
      at_own c b e (acts s) w = at_put c b s e w (eqb X Q) refl
      at_own c b e (attends mt o) w = at_meeting c b mt o e w (member X c.mode) _ refl refl

      at_site : (s : Site) → J Q ≡ s → Touched S Q J X
      at_site (running c b) e = at_own c b e (own S Q c b) refl
      at_site (over f b) e = not_at_all (rw e)
