-- What the members of a set bring together, where each brings its part of one secret: all of it, and all agree. Assumes nothing.
use Prim.Native.Nat.{ℕ, zero, suc, ◌<◌}
use mathlib.Core.Path.{◌≡◌, refl, ap}
use mathlib.Core.Bool.{Bool, true, false, cond}
use native.Mathlib.Nat.{le_refl, not-suc-le-zero}
use native.Mathlib.Omega.{arith}
use borrow.Author.Tests.{eq-eqb}
use lib.IntN.{ℤ, pos, negsuc}
use Rattle.numbers.specs.Integers.{same_integer}
use Rattle.parties.specs.Sets.{member}
use Rattle.parties.specs.SetLaws.{same_self}
use Rattle.parties.specs.declared.sets.PartySet.{PartySet}
use Rattle.program.specs.Check.{node_at}
use Rattle.rules.specs.Moves.{Control}
use Rattle.rules.specs.Books.{Book}
use Rattle.rules.specs.Single.{Setting}
use Rattle.rules.specs.Joint.{attends, own, Sites, Attendance, there, or_else, brought, agrees, all_agree, joins, put_all, counted, concluded}
use Rattle.rules.specs.declared.effects.Meeting.{Meeting}
use Rattle.rules.specs.declared.effects.Meeting.TheVariants.{Sharing, Revealing}
use Rattle.rules.specs.declared.effects.Offer.{Offer}
use Rattle.rules.specs.declared.effects.Offer.TheVariants.{Empty, Secret}
use Rattle.invariants.proofs.AllOfLaws.{all_by}
use Rattle.invariants.proofs.AttendsLaws.{attends_at}
use Rattle.demands.specs.Rounds.{is_meeting, is_joint}
use Rattle.demands.proofs.Brought.{bring}
use Rattle.demands.proofs.Tally.{lower}

-- the secret is brought, where one of its holders is there
pub brought_by : (n : ℕ) (m : PartySet) (f : ℕ → Attendance) (i : ℤ) (h : PartySet) → ((X : ℕ) → X < n → member X m ≡ true → f X ≡ there (bring X i h))
    → (Q : ℕ) → Q < n → member Q h ≡ true → member Q m ≡ true → brought n m f ≡ Secret i h
unfolding brought
brought_by zero m f i h b Q q d e = absurd (not-suc-le-zero q)
brought_by (suc n) m f i h b Q q d e = go (member n m) (member n h) refl refl (λ q'. brought_by n m f i h (λ X p k. b X (omega arith) k) Q q' d e)
  where
    go : (t u : Bool) → member n m ≡ t → member n h ≡ u → (Q < n → brought n m f ≡ Secret i h)
        → cond t (or_else (f n) (brought n m f)) (brought n m f) ≡ Secret i h
    go true true et eu ih = rw (b n (le_refl (suc n)) et, eu)
    go true false et eu ih = rw (b n (le_refl (suc n)) et, eu) (ih (lower (λ X. member X h) Q n q d eu))
    go false u et eu ih = ih (lower (λ X. member X m) Q n q e et)

pub same_integer_lem : (i : ℤ) → same_integer i i ≡ true
same_integer_lem (pos n) = eq-eqb n n refl
same_integer_lem (negsuc n) = eq-eqb n n refl

agrees_by : (i : ℤ) (h : PartySet) (X : ℕ) → agrees i h X (there (bring X i h)) ≡ true
unfolding agrees
agrees_by i h X = go (member X h) refl
  where
    go : (t : Bool) → member X h ≡ t → agrees i h X (there (cond t (Secret i h) Empty)) ≡ true
    go true e = rw (e, same_self h, same_integer_lem i)
    go false e = rw e

agree_by : (mt : Meeting) (n : ℕ) (m : PartySet) (i : ℤ) (h : PartySet) (f : ℕ → Attendance) → ((X : ℕ) → X < n → member X m ≡ true → f X ≡ there (bring X i h))
    → all_agree mt n m i h f ≡ true
unfolding all_agree
agree_by (Sharing a q) n m i h f b = refl
agree_by (Revealing q) n m i h f b = all_by m (λ X. agrees i h X (f X)) n (λ X p e. rw (b X p e) (agrees_by i h X))

-- and the meeting is concluded
pub concluded_by : (S : Setting) (m : PartySet) (mt : Meeting) (i : ℤ) (h : PartySet) (f : ℕ → Attendance) (J : Sites)
    → ((X : ℕ) → X < S.program.parties → member X m ≡ true → f X ≡ there (bring X i h)) → concluded S m mt (Secret i h) f J ≡ counted (put_all m (joins S i) J)
unfolding concluded
concluded_by S m mt i h f J b = rw (agree_by mt S.program.parties m i h f b)

-- a site attends only at a joint node
pub attends_joint : (S : Setting) (P : ℕ) (c : Control) (b : Book) (mt : Meeting) (o : Offer) → own S P c b ≡ attends mt o → is_joint (node_at S.program c.node) ≡ true
attends_joint S P c b mt o w = ap is_meeting (attends_at S P c b mt o w)
