-- What own steps, meetings and partings keep, every run of turns keeps. Assumes nothing.
use mathlib.Core.Path.{◌≡◌, refl}
use mathlib.Core.Bool.{Bool, true, false, ◌&&◌, cond}
use mathlib.Core.List.{List, [], ◌∷◌}
use mathlib.Core.Option.{some}
use Prim.Native.Nat.{ℕ, zero, suc}
use native.Mathlib.Omega.{arith}
use lib.Dec.{eqb}
use borrow.Author.Tests.{eqb-true}
use lib.IntN.{ℤ}
use Rattle.parties.specs.Sets.{member, same_set}
use Rattle.parties.specs.declared.sets.PartySet.{PartySet}
use Rattle.values.specs.Values.{slice}
use Rattle.refusals.specs.Numbers.{disagreement}
use Rattle.rules.specs.Moves.{Control}
use Rattle.rules.specs.Books.{Book, handed, event_of}
use Rattle.rules.specs.Single.{Setting}
use Rattle.rules.specs.Joint.{Site, Sites, running, over, stop, settle, Own, acts, attends, own, Attendance, away, there, attending, attendance, or_else, brought, joins_by, joins, parts, put, meeting, turn_own, turn_at, turn, run_turns}
use Rattle.rules.specs.declared.effects.Move.TheVariants.{Hand}
use Rattle.rules.specs.declared.effects.Meeting.{Meeting}
use Rattle.rules.specs.declared.effects.Offer.{Offer}
use Rattle.rules.specs.declared.effects.Offer.TheVariants.{Empty, Secret}
use Rattle.invariants.proofs.MeetingLaws.{meeting_each}

-- An invariant of the sites, and of the numbers that meetings are about: a site's own step keeps it, what a site brings is such a number,
-- and whoever takes part in a meeting about such a number, or parts, keeps it.
pub record Keeps (S : Setting) (Inv : ℕ → Site → Type 0) (Num : ℤ → Type 0) : Type 0 where
  pub steps : (P : ℕ) (c : Control) (b : Book) (s : Site) → Inv P (running c b) → own S P c b ≡ acts s → Inv P s
  pub brings : (P : ℕ) (c : Control) (b : Book) (mt : Meeting) (i : ℤ) (h : PartySet) → Inv P (running c b) → own S P c b ≡ attends mt (Secret i h) → Num i
  pub meets : (P : ℕ) (c : Control) (b : Book) (mt : Meeting) (o : Offer) (i : ℤ) → Inv P (running c b) → own S P c b ≡ attends mt o → Num i
      → Inv P (settle S P c b (some (event_of mt i)) (Hand (slice P (handed mt i))))
  pub leaves : (P : ℕ) (c : Control) (b : Book) → Inv P (running c b) → Inv P (stop disagreement c.node b)

module _ (S : Setting) (Inv : ℕ → Site → Type 0) (Num : ℤ → Type 0) (k : Keeps S Inv Num) where
  -- ---- what is brought to a meeting

  attending_num : (P : ℕ) (c : Control) (b : Book) → Inv P (running c b) → (i : ℤ) (h : PartySet) (o : Own) → own S P c b ≡ o → attending o ≡ there (Secret i h) → Num i
  attending_num P c b v i h (acts s) q e = absurd (let z : ◌≡◌ {A = ℕ} 0 1 = cc in omega arith)
  attending_num P c b v i h (attends mt o) q e =
      let f : o ≡ Secret i h = cc in
      k.brings P c b mt i h v (rw f at q)

  attendance_num : (e : ℕ) (m : PartySet) (P : ℕ) (s : Site) → Inv P s → (i : ℤ) (h : PartySet) → attendance S e m P s ≡ there (Secret i h) → Num i
  unfolding attendance
  attendance_num e m P (running c b) v i h q = go (eqb c.node e && same_set c.mode m) q
    where
      go : (t : Bool) → cond t (attending (own S P c b)) away ≡ there (Secret i h) → Num i
      go true q = attending_num P c b v i h (own S P c b) refl q
      go false q = absurd (let z : ◌≡◌ {A = ℕ} 0 1 = cc in omega arith)
  attendance_num e m P (over f b) v i h q = absurd (let z : ◌≡◌ {A = ℕ} 0 1 = cc in omega arith)

  brought_num : (f : ℕ → Attendance) → ((P : ℕ) (i : ℤ) (h : PartySet) → f P ≡ there (Secret i h) → Num i)
      → (n : ℕ) (m : PartySet) (i : ℤ) (h : PartySet) → brought n m f ≡ Secret i h → Num i
  unfolding brought
  brought_num f g zero m i h e = absurd (let z : ◌≡◌ {A = ℕ} 0 1 = cc in omega arith)
  brought_num f g (suc n) m i h e = go (member n m) (f n) refl e (brought_num f g n m i h)
    where
      go : (t : Bool) (a : Attendance) → f n ≡ a → cond t (or_else a (brought n m f)) (brought n m f) ≡ Secret i h → (brought n m f ≡ Secret i h → Num i) → Num i
      go false a q e r = r e
      go true away q e r = r e
      go true (there Empty) q e r = r e
      go true (there (Secret j l)) q e r = g n i h (cc)

  -- ---- a meeting

  joins_keeps : (i : ℤ) → Num i → (P : ℕ) (s : Site) → Inv P s → Inv P (joins S i P s)
  unfolding joins joins_by
  joins_keeps i u P (running c b) v = go (own S P c b) refl
    where
      go : (o : Own) → own S P c b ≡ o → Inv P (joins_by S i P c b o)
      go (acts s) q = v
      go (attends mt o) q = k.meets P c b mt o i v q u
  joins_keeps i u P (over f b) v = v

  parts_keeps : (P : ℕ) (s : Site) → Inv P s → Inv P (parts P s)
  unfolding parts
  parts_keeps P (running c b) v = k.leaves P c b v
  parts_keeps P (over f b) v = v

  module _ (J : Sites) (v : (P : ℕ) → Inv P (J P)) where
    meeting_keeps : (e : ℕ) (m : PartySet) (mt : Meeting) (P : ℕ) → Inv P ((meeting S e m mt J).sites P)
    meeting_keeps e m mt P =
        meeting_each S (λ Q s s'. Inv Q s → Inv Q s') (λ Q s u. u) parts_keeps J e m mt
        (λ i h q. joins_keeps i (brought_num (λ Q. attendance S e m Q (J Q)) (λ Q j l r. attendance_num e m Q (J Q) (v Q) j l r) S.program.parties m i h q)) P (v P)

    -- ---- a turn

    pub turn_keeps : (P Q : ℕ) → Inv Q ((turn S P J).sites Q)
    unfolding turn turn_at turn_own put
    turn_keeps P Q = at (J P) refl
      where
        placed : (s : Site) → Inv P s → (t : Bool) → eqb Q P ≡ t → Inv Q (cond t s (J Q))
        placed s u true e = let q : Q ≡ P = eqb-true Q P e in rw q u
        placed s u false e = v Q

        does : (c : Control) (b : Book) → J P ≡ running c b → (o : Own) → own S P c b ≡ o → Inv Q ((turn_own S P c o J).sites Q)
        does c b r (acts s) q = placed s (k.steps P c b s (rw r at (v P)) q) (eqb Q P) refl
        does c b r (attends mt o) q = meeting_keeps c.node c.mode mt Q

        at : (s : Site) → J P ≡ s → Inv Q ((turn_at S P s J).sites Q)
        at (running c b) r = does c b r (own S P c b) refl
        at (over f b) r = v Q

  -- whatever the turns
  pub run_keeps : (ts : List ℕ) (J : Sites) → ((P : ℕ) → Inv P (J P)) → (P : ℕ) → Inv P ((run_turns S ts J).sites P)
  unfolding run_turns
  run_keeps [] J v P = v P
  run_keeps (t ∷ ts) J v P = run_keeps ts (turn S t J).sites (turn_keeps J v t) P
