-- A turn keeps the sites timed. Assumes nothing.
use Prim.Native.Nat.{ℕ, suc, ◌<◌, ◌≤◌}
use mathlib.Core.Path.{◌≡◌, refl, sym, ap, ◌∙◌, subst}
use mathlib.Core.Bool.{Bool, true, false, ◌&&◌, cond, false≢true}
use mathlib.Core.List.{List}
use native.Mathlib.Nat.{le_refl, zero-add}
use native.Mathlib.Omega.{arith}
use native.Mathlib.Decide.{dec_lt}
use borrow.Author.Tests.{eqb-true, eq-eqb}
use lib.Dec.{eqb}
use lib.IntN.{ℤ}
use Rattle.limits.specs.Limits.{max_parties}
use Rattle.parties.specs.Sets.{member}
use Rattle.parties.specs.SetLaws.{same_self}
use Rattle.parties.specs.declared.sets.PartySet.{PartySet}
use Rattle.program.specs.Check.{node_at}
use Rattle.rules.specs.Rules.{rule}
use Rattle.rules.specs.Moves.{Control}
use Rattle.rules.specs.Books.{Books}
use Rattle.rules.specs.Single.{Setting, Single, going, ended, stopped, all_of, perform, step, after}
use Rattle.rules.specs.Joint.{Site, running, land, acts, attends, own, Sites, Attendance, there, attendance, is_there, brought, joins_by, joins, Turned, idle, counted, put, put_all, concluded, meeting, turn_own, turn_at, turn}
use Rattle.rules.specs.declared.effects.View.TheVariants.{Whole}
use Rattle.rules.specs.declared.effects.Meeting.{Meeting}
use Rattle.rules.specs.declared.effects.Offer.TheVariants.{Empty, Secret}
use Rattle.rules.specs.declared.effects.Effect.{Effect}
use Rattle.rules.specs.declared.effects.Effect.TheVariants.{Refuse, Goes, Reads, Writes, Meets}
use Rattle.invariants.proofs.AllOfLaws.{all_member, all_by}
use Rattle.invariants.proofs.Passing.{Gathers, Touched, not_at_all, itself, meeting_there, turn_touches}
use Rattle.demands.specs.Rounds.{is_joint, active, meets_at, how_many}
use Rattle.demands.proofs.Brought.{bring, somebody}
use Rattle.demands.proofs.Fits.{Fits, rule_fits_lem}
use Rattle.demands.proofs.Seen.{seen, seen_control, slice_control, Fine, NestedIn, Nested, nested_below}
use Rattle.demands.proofs.SeenStep.{step_seen, met_attends, met_seen}
use Rattle.demands.proofs.Inside.{Inside}
use Rattle.demands.proofs.Times.{after_one_more, fine, nested}
use Rattle.demands.proofs.Tally.{charged, total, sum_same, how_many_one, charged_as, charged_once}
use Rattle.demands.proofs.Timed.{Timed, Onward, onward}
use Rattle.invariants.proofs.AttendsLaws.{there_same}
use Rattle.demands.proofs.Gathered.{brought_by, concluded_by, attends_joint}

between : {t u : ℕ} → (u < t → u < u) → (t < u → t < t) → u ≡ t
between {t} {u} f g = go (dec_lt u t) (dec_lt t u)
  where
    go : Dec (u < t) → Dec (t < u) → u ≡ t
    go (yes h) d = absurd (omega (arith, f h))
    go (no h) (yes k) = absurd (omega (arith, g k))
    go (no h) (no k) = omega arith

running_seen : (X t : ℕ) (c : Control) (b : Books) → member X c.mode ≡ true → seen X (going t c b) ≡ running (slice_control X c) (b X)
unfolding seen seen_control land
running_seen X t c b e = rw e

-- a joint step that the single run takes is a meeting about a secret
pub record MeetsHere (S : Setting) (c : Control) : Type 0 where
  pub mt : Meeting
  pub i : ℤ
  pub h : PartySet
  pub is : rule Whole (node_at S.program c.node) c.mode c.names ≡ Meets mt (Secret i h)

pub meets_here : (S : Setting) (t : ℕ) (c : Control) (b : Books) → is_joint (node_at S.program c.node) ≡ true → Fine (step S (going t c b)) → MeetsHere S c
unfolding step perform
meets_here S t c b j = go (rule Whole (node_at S.program c.node) c.mode c.names) refl
    (subst (λ (t : Bool). Fits Whole t c.mode (rule Whole (node_at S.program c.node) c.mode c.names)) j
    (rule_fits_lem Whole (node_at S.program c.node) c.mode c.names))
  where
    go : (e : Effect) → rule Whole (node_at S.program c.node) c.mode c.names ≡ e → Fits Whole true c.mode e → Fine (perform S t c b e) → MeetsHere S c
    go (Refuse k) e f g = absurd g
    go (Goes mv) e f g = absurd f
    go Reads e f g = absurd f
    go (Writes i) e f g = absurd f
    go (Meets mt Empty) e f g = absurd g
    go (Meets mt (Secret i h)) e f g = record { mt = mt; i = i; h = h; is = e }

-- the single run at time u, with party X in its mode
record Here (S : Setting) (inputs : ℕ → List ℤ) (X u : ℕ) : Type 0 where
  steps : ℕ
  c : Control
  books : Books
  at : after S inputs u ≡ going steps c books
  inside : member X c.mode ≡ true

here : (S : Setting) (inputs : ℕ → List ℤ) (X u : ℕ) → active X (after S inputs u) ≡ true → Here S inputs X u
here S inputs X u a = go (after S inputs u) refl a
  where
    go : (s : Single) → after S inputs u ≡ s → active X s ≡ true → Here S inputs X u
    go (going t c d) e k = record { steps = t; c = c; books = d; at = e; inside = k }
    go (ended t v d) e k = absurd (false≢true k)
    go (stopped t r n d) e k = absurd (false≢true k)

module _ (S : Setting) (inputs : ℕ → List ℤ) (K : ℕ) (sound : Fine (after S inputs K)) (small : S.program.parties ≤ max_parties) (Kept : ℕ → Site → Type 0)
    (keep : (X : ℕ) → Kept X (seen X (after S inputs K)))
    (keeps : (J : Sites) (τ : Timed S inputs K sound Kept J) (Q X : ℕ) → Q < S.program.parties → X < S.program.parties → τ.time X ≡ K → Kept X ((turn S Q J).sites X))
    (kept-inside : (X : ℕ) (s : Site) → Kept X s → Inside X s) where
  module _ (J : Sites) (τ : Timed S inputs K sound Kept J) (P : ℕ) (p : P < S.program.parties) where
    -- a site before the end is running there
    here_running : (X : ℕ) → X < S.program.parties → τ.time X < K → (y : Here S inputs X (τ.time X)) → J X ≡ running (slice_control X y.c) (y.books X)
    here_running X x h y = τ.is X x h ∙ rw y.at (running_seen X y.steps y.c y.books y.inside)

    -- P is past the K steps: what it does touches no site that is not
    untouched : τ.time P ≡ K → (X : ℕ) → X < S.program.parties → τ.time X < K → (turn S P J).sites X ≡ J X
    untouched e X x h = go (turn_touches S P J X)
      where
        met : Gathers S P J X → Here S inputs X (τ.time X) → ⊥
        met g y =
            let i : Inside P (running g.c g.b) = rw g.at at (kept-inside P (J P) (τ.kept P p e)) in
            let r = all_member g.c.mode (λ Y. is_there (attendance S g.c.node g.c.mode Y (J Y))) S.program.parties g.all X x g.«in» in
            let both = there_same S g.c.node g.c.mode X (slice_control X y.c) (y.books X) (rw (here_running X x h y) at r) in
            let k : τ.time X < τ.time P → τ.time X < τ.time X =
            τ.sync P X (τ.time X) p x (rw (y.at, both.0) (attends_joint S P g.c g.b g.mt g.o g.waiting)) (rw (y.at, both.1) i.0) (τ.act X x h) in
            omega (arith, k (omega arith))

        go : Touched S P J X → (turn S P J).sites X ≡ J X
        go (not_at_all q) = q
        go (itself q) = absurd (omega (arith, ap τ.time q))
        go (meeting_there g) = absurd (met g (here S inputs X (τ.time X) (τ.act X x h)))

    past_turn : τ.time P ≡ K → Onward S inputs K sound Kept P J (turn S P J) τ
    past_turn e =
        record {
          timed = record {
            time = τ.time;
            upto = τ.upto;
            is = λ X x h. untouched e X x h ∙ τ.is X x h;
            kept = λ X x h. keeps J τ P X p x h;
            act = τ.act;
            sync = τ.sync;
          };
          later = λ X x. le_refl (τ.time X);
          passes = λ l h. absurd (omega arith);
          counts = λ h. absurd (omega arith);
          rests = λ h. refl;
        }

    module _ (before : τ.time P < K) (steps : ℕ) (c : Control) (bk : Books) (at : after S inputs (τ.time P) ≡ going steps c bk) (inside : member P c.mode ≡ true) where
      next_is : step S (going steps c bk) ≡ after S inputs (suc (τ.time P))
      next_is = rw (← at) (sym (after_one_more S inputs (τ.time P)))

      next_fine : Fine (step S (going steps c bk))
      next_fine = rw next_is (fine S inputs K sound (suc (τ.time P)) before)

      nested_there : (X : ℕ) → Nested S.program.parties X c.mode c.frames
      nested_there X = subst (NestedIn S.program.parties X) at (nested S inputs K sound X (τ.time P))

      -- another site at that time
      there_running : (X : ℕ) → X < S.program.parties → τ.time X ≡ τ.time P → member X c.mode ≡ true → J X ≡ running (slice_control X c) (bk X)
      there_running X x e k = τ.is X x (rw e before) ∙ rw (e, at) (running_seen X steps c bk k)

      -- a step of P's own
      alone_turn : is_joint (node_at S.program c.node) ≡ false → Onward S inputs K sound Kept P J (turn S P J) τ
      unfolding turn turn_at turn_own put
      alone_turn j =
          onward S inputs K sound Kept J (turn S P J) τ (τ.time P) before (λ X. eqb X P)
          (λ X x e. ap τ.time (eqb-true X P e))
          (λ m X x a. absurd (false≢true (sym not_joint ∙ m)))
          new once (ap (λ (r : Turned). r.count) turned) keep P p (eq-eqb P P refl)
        where
          s' : Site
          s' = seen P (after S inputs (suc (τ.time P)))

          not_joint : meets_at S (after S inputs (τ.time P)) ≡ false
          not_joint = rw at j

          acted : own S P (slice_control P c) (bk P) ≡ acts s'
          acted = step_seen S.program.parties P c inside (nested_there P) S steps bk p small j next_fine ∙ rw next_is

          turned : turn S P J ≡ counted (put P s' J)
          turned = rw (there_running P p refl inside, acted)

          new : (X : ℕ) → X < S.program.parties → (turn S P J).sites X ≡ cond (eqb X P) (seen X (after S inputs (suc (τ.time P)))) (J X)
          new X x = ap (λ (r : Turned). r.sites X) turned ∙ go (eqb X P) refl
            where
              go : (t : Bool) → eqb X P ≡ t → cond t s' (J X) ≡ cond t (seen X (after S inputs (suc (τ.time P)))) (J X)
              go true e = ap (λ (Q : ℕ). seen Q (after S inputs (suc (τ.time P)))) (sym (eqb-true X P e))
              go false e = refl

          once : how_many S.program.parties (λ X. eqb X P && charged S X (after S inputs (τ.time P))) ≡ 1
          once = how_many_one S.program.parties _ P p (λ X x. go X (eqb X P) refl)
            where
              go : (X : ℕ) (t : Bool) → eqb X P ≡ t → (t && charged S X (after S inputs (τ.time P))) ≡ t
              go X true e = charged_as S inputs X (τ.time P) not_joint ∙ rw (eqb-true X P e, at) inside
              go X false e = refl

      -- a meeting
      module _ (j : is_joint (node_at S.program c.node) ≡ true) (w : MeetsHere S c) where
        attends_there : (X : ℕ) → X < S.program.parties → member X c.mode ≡ true → own S X (slice_control X c) (bk X) ≡ attends w.mt (bring X w.i w.h)
        attends_there X x k = met_attends S.program.parties X c k (nested_there X) S steps bk w.mt w.i w.h x j w.is next_fine

        is_there_lem : (X : ℕ) → X < S.program.parties → τ.time X ≡ τ.time P → member X c.mode ≡ true
            → attendance S c.node c.mode X (J X) ≡ there (bring X w.i w.h)
        unfolding attendance
        is_there_lem X x t k = rw (there_running X x t k, eq-eqb c.node c.node refl, same_self c.mode, attends_there X x k)

        -- a site that is there is at that time
        there_then : (X : ℕ) → X < S.program.parties → member X c.mode ≡ true → is_there (attendance S c.node c.mode X (J X)) ≡ true → τ.time X ≡ τ.time P
        there_then X x k r = go (dec_lt (τ.time X) K)
          where
            late : τ.time P < τ.time X → τ.time P < τ.time P
            late = τ.sync X P (τ.time P) x p (rw at j) (rw at k) (rw at inside)

            stands : (y : Here S inputs X (τ.time X)) → τ.time X < K → τ.time X ≡ τ.time P
            stands y h =
                let both = there_same S c.node c.mode X (slice_control X y.c) (y.books X) (rw (here_running X x h y) at r) in
                let early : τ.time X < τ.time P → τ.time X < τ.time X =
                τ.sync P X (τ.time X) p x (rw (y.at, both.0) j) (rw (y.at, both.1) inside) (τ.act X x h) in
                between early late

            go : Dec (τ.time X < K) → τ.time X ≡ τ.time P
            go (no h) = absurd (omega (arith, late (omega arith)))
            go (yes h) = stands (here S inputs X (τ.time X) (τ.act X x h)) h

        meets_turn : Onward S inputs K sound Kept P J (turn S P J) τ
        unfolding turn turn_at turn_own meeting
        meets_turn = go (all_of n m (λ X. is_there (f X))) refl
          where
            n : ℕ
            n = S.program.parties

            m : PartySet
            m = c.mode

            f : ℕ → Attendance
            f X = attendance S c.node m X (J X)

            turned : (r : Bool) → all_of n m (λ X. is_there (f X)) ≡ r → turn S P J ≡ cond r (concluded S m w.mt (brought n m f) f J) (idle J)
            turned r er = rw (there_running P p refl inside, attends_there P p inside, er)

            -- all members are there
            met : ((X : ℕ) → X < n → member X m ≡ true → τ.time X ≡ τ.time P) → turn S P J ≡ counted (put_all m (joins S w.i) J)
            met t =
                let o : (X : ℕ) → X < n → member X m ≡ true → f X ≡ there (bring X w.i w.h) = λ X x k. is_there_lem X x (t X x k) k in
                let (Q, h, k) = somebody m (node_at S.program c.node) c.names w.mt w.i w.h j w.is in
                let q : Q < n = nested_below n Q m c.frames (nested_there Q) k in
                turned true (all_by m (λ X. is_there (f X)) n (λ X x k. ap is_there (o X x k)))
                ∙ rw (brought_by n m f w.i w.h o Q q h k) (concluded_by S m w.mt w.i w.h f J o)

            new : ((X : ℕ) → X < n → member X m ≡ true → τ.time X ≡ τ.time P)
                → (X : ℕ) → X < n → (turn S P J).sites X ≡ cond (member X m) (seen X (after S inputs (suc (τ.time P)))) (J X)
            new t X x = ap (λ (r : Turned). r.sites X) (met t) ∙ at_site (member X m) refl
              where
                at_site : (k : Bool) → member X m ≡ k → put_all m (joins S w.i) J X ≡ cond k (seen X (after S inputs (suc (τ.time P)))) (J X)
                at_site true k = unfold put_all joins joins_by in rw (k, there_running X x (t X x k) k, attends_there X x k)
                    (met_seen S.program.parties X c k (nested_there X) S steps bk w.mt w.i w.h x w.is next_fine ∙ rw next_is)
                at_site false k = unfold put_all in rw k

            -- it is put to one member's account
            once : how_many n (λ X. member X m && charged S X (after S inputs (τ.time P))) ≡ 1
            once = sum_same n _ _ (λ X x. ap (λ (b : Bool). cond b 1 0) (account X (member X m) refl)) ∙ charged_once S inputs (τ.time P) P p (rw at inside) (rw at j)
              where
                account : (X : ℕ) (k : Bool) → member X m ≡ k → (k && charged S X (after S inputs (τ.time P))) ≡ charged S X (after S inputs (τ.time P))
                account X true k = refl
                account X false k = unfold charged in rw (at, k)

            go : (r : Bool) → all_of n m (λ X. is_there (f X)) ≡ r → Onward S inputs K sound Kept P J (turn S P J) τ
            go true er =
                let t : (X : ℕ) → X < n → member X m ≡ true → τ.time X ≡ τ.time P = λ X x k. there_then X x k (all_member m (λ X. is_there (f X)) n er X x k) in
                onward S inputs K sound Kept J (turn S P J) τ (τ.time P) before (λ X. member X m) t
                (λ h X x a. subst (λ (s : Single). active X s ≡ true) at a) (new t) once (ap (λ (r : Turned). r.count) (met t)) keep P p inside
            go false er =
                subst (λ (r : Turned). Onward S inputs K sound Kept P J r τ) (sym (turned false er))
                (record {
                  timed = τ;
                  later = λ X x. le_refl (τ.time X);
                  passes = λ low h. absurd (false≢true (sym er ∙ all_by m (λ X. is_there (f X)) n (all_there low)));
                  counts = λ h. sym (zero-add (total S inputs τ.time));
                  rests = λ h. refl;
                })
              where
                all_there : ((X : ℕ) → X < n → τ.time P ≤ τ.time X) → (X : ℕ) → X < n → member X m ≡ true → is_there (f X) ≡ true
                all_there low X x k =
                    let late : τ.time P < τ.time X → τ.time P < τ.time P = τ.sync X P (τ.time P) x p (rw at j) (rw at k) (rw at inside) in
                    ap is_there (is_there_lem X x (between (λ h. absurd (omega (arith, low X x))) late) k)

    pub turn_onward : Onward S inputs K sound Kept P J (turn S P J) τ
    turn_onward = go (dec_lt (τ.time P) K)
      where
        at_node : (before : τ.time P < K) (y : Here S inputs P (τ.time P)) (t : Bool) → is_joint (node_at S.program y.c.node) ≡ t → Onward S inputs K sound Kept P J (turn S P J) τ
        at_node before y true j =
            meets_turn before y.steps y.c y.books y.at y.inside j (meets_here S y.steps y.c y.books j (next_fine before y.steps y.c y.books y.at y.inside))
        at_node before y false j = alone_turn before y.steps y.c y.books y.at y.inside j

        go : Dec (τ.time P < K) → Onward S inputs K sound Kept P J (turn S P J) τ
        go (yes h) = let y = here S inputs P (τ.time P) (τ.act P p h) in at_node h y (is_joint (node_at S.program y.c.node)) refl
        go (no h) = past_turn (omega (arith, τ.upto P p))
