-- Who is at a meeting, from what each site's reader answered: what is gathered, and whether all agree. Assumes nothing.
use mathlib.Core.Path.{◌≡◌, refl, sym, ap, ◌∙◌}
use mathlib.Core.Bool.{Bool, true, false, not}
use mathlib.Core.List.{List}
use Prim.Native.Nat.{ℕ, ◌+◌, ◌<◌}
use native.Mathlib.Numerals.{add-one}
use borrow.Author.Tests.{not-true, not-false}
use lib.IntN.{ℤ}
use Rattle.std.specs.Prelude.{Option, Some, None}
use lib.ListN.{get_or}
use Rattle.parties.specs.Sets.{member, meet, all}
use Rattle.parties.specs.SetLaws.{below_member}
use Rattle.limits.specs.declared.Party.{Party}
use Rattle.parties.specs.declared.sets.PartySet.{PartySet}
use Rattle.parties.proofs.LoopLaws.{Passes}
use Rattle.nodes.specs.declared.JointNode.{JointNode}
use Rattle.rules.specs.Single.{all_of}
use Rattle.rules.specs.Joint.{Site, Attendance, away, there, attendance, is_there, or_else, brought, agrees, all_agree, book_of}
use Rattle.rules.specs.declared.effects.Meeting.{Meeting}
use Rattle.rules.specs.declared.effects.Meeting.TheVariants.{Sharing, Revealing}
use Rattle.rules.specs.declared.effects.Offer.{Offer}
use Rattle.rules.specs.declared.effects.Offer.TheVariants.{Empty}
use Rattle.invariants.proofs.AllOfLaws.{passes, all_none, all_more, all_lack}
use Rattle.attends.specs.Attends.{told, IsAt}
use Rattle.area.specs.Rows.{area_of}
use Rattle.meets.specs.Places.{setting_of}
use Rattle.meets.specs.Meets.{Attends, adding, gathered, Brings, MemberAgrees, Sitting, present, Gathers, AllAgree, Agreed}

-- ---- one site
module _ (node : JointNode) (e : ℕ) (m : PartySet) (P room : ℕ) (lengths work : List ℕ) (a : Option Offer) where
  pub attends_told : IsAt node e m (record { index = P }) room (get_or lengths P 0) a (area_of P work) → Attends node e m P room a lengths work
  attends_told at =
      record {
        comes = λ p read s z. at.comes p read (book_of s) z.count ∙ ap (λ (x : Site). attendance (setting_of p room) e m P x) (sym z.site);
      }

  module _ (at : Attends node e m P room a lengths work) where
    pub brings_told : (before : Offer) (r : Option Offer) → r ≡ adding before (told a) → Brings node e m P room before r lengths work
    brings_told before r q = record { comes = λ p read s z. rw (← at.comes p read s z) q }

    pub agrees_told : (i : ℤ) (h : PartySet) (r : Bool) → r ≡ agrees i h P (told a) → MemberAgrees node e m P room i h r lengths work
    agrees_told i h r q = record { comes = λ p read s z. rw (← at.comes p read s z) q }

-- ---- what one member adds
added_there : (f : Attendance) (before more : Offer) → Some more ≡ adding before f → is_there f ≡ true
added_there away before more q = cc
added_there (there o) before more q = refl

added_is : (f : Attendance) (before more : Offer) → Some more ≡ adding before f → more ≡ or_else f before
added_is away before more q = cc
added_is (there o) before more q = cc

added_none : (f : Attendance) (before : Offer) → None ≡ adding before f → is_there f ≡ false
added_none away before q = refl
added_none (there o) before q = cc

-- ---- all members below n

-- who of the members is below n
pub below_in : (s m : PartySet) (n : ℕ) → s ≡ meet m (all n) → (k : ℕ) → k < n → member k m ≡ member k s
below_in s m n is k h = sym (below_member k n m h) ∙ ap (member k) (sym is)

module _ (node : JointNode) (e : ℕ) (m : PartySet) (n room : ℕ) (lengths work : List ℕ) where
  -- all members below k are there, and bring o
  pub record Gathering (o : Offer) (k : ℕ) : Type 0 where
    pub all : (Z : Sitting node e n lengths work) → all_of k m (λ P. is_there (present Z room m P)) ≡ true
    pub brings : (Z : Sitting node e n lengths work) → o ≡ brought k m (present Z room m)

  -- who is no member brings nothing
  gather_out : (o : Offer) (k : ℕ) → member k m ≡ false → Gathering o k → Gathering o (k + 1)
  unfolding brought
  gather_out o k out so_far =
      record {
        all = λ Z. all_more m (λ P. is_there (present Z room m P)) k (so_far.all Z) (rw out);
        brings = λ Z. rw (add-one, out) (so_far.brings Z);
      }

  pub gather_passes : (s : PartySet) → s ≡ meet m (all n) → (o : Offer) → Passes s n (Gathering o)
  gather_passes s is o k h out = gather_out o k (below_in s m n is k h ∙ out)

  pub gather_none : Gathering Empty 0
  unfolding brought
  gather_none = record { all = λ Z. all_none m (λ P. is_there (present Z room m P)); brings = λ Z. refl }

  pub gather_all : (o : Offer) → Gathering o n → Gathers node e m n room (Some o) lengths work
  unfolding gathered
  gather_all o so_far = record { comes = λ Z. rw (so_far.all Z, ← so_far.brings Z) }

  module _ (k : ℕ) (o : Offer) (below : k < n) (inside : member k m ≡ true) (r : Option Offer) (one : Brings node e m k room o r lengths work) where
    one_is : (Z : Sitting node e n lengths work) → r ≡ adding o (present Z room m k)
    one_is Z = one.comes Z.program Z.read (Z.sites k) (Z.sits k below)

    pub gather_more : (more : Offer) → r ≡ Some more → Gathering o k → Gathering more (k + 1)
    unfolding brought
    gather_more more s so_far =
        record {
          all = λ Z. all_more m (λ P. is_there (present Z room m P)) k (so_far.all Z) (rw inside (added_there (present Z room m k) o more (sym s ∙ one_is Z)));
          brings = λ Z. rw (add-one, inside, ← so_far.brings Z) (added_is (present Z room m k) o more (sym s ∙ one_is Z));
        }

    pub gather_missing : r ≡ None → Gathers node e m n room None lengths work
    unfolding gathered
    gather_missing s =
        record { comes = λ Z. rw (← all_lack m (λ P. is_there (present Z room m P)) n k below (rw inside (added_none (present Z room m k) o (sym s ∙ one_is Z)))) }

  module _ (i : ℤ) (h : PartySet) where
    -- all members below k agree
    pub record Agreeing (k : ℕ) : Type 0 where
      pub all : (Z : Sitting node e n lengths work) → all_of k m (λ P. agrees i h P (present Z room m P)) ≡ true

    -- who is no member is not asked
    pub agree_passes : (s : PartySet) → s ≡ meet m (all n) → Passes s n Agreeing
    agree_passes s is k below out so_far =
        record { all = λ Z. all_more m (λ P. agrees i h P (present Z room m P)) k (so_far.all Z) (rw (below_in s m n is k below ∙ out)) }

    pub agree_none : Agreeing 0
    agree_none = record { all = λ Z. all_none m (λ P. agrees i h P (present Z room m P)) }

    pub agree_all : Agreeing n → AllAgree node e m n room i h true lengths work
    agree_all so_far = record { comes = λ Z. sym (so_far.all Z) }

    module _ (k : ℕ) (below : k < n) (inside : member k m ≡ true) (r : Bool) (one : MemberAgrees node e m k room i h r lengths work) where
      agrees_is : (Z : Sitting node e n lengths work) → r ≡ passes m (λ P. agrees i h P (present Z room m P)) k
      agrees_is Z = rw inside (one.comes Z.program Z.read (Z.sites k) (Z.sits k below))

      pub agree_more : not r ≡ false → Agreeing k → Agreeing (k + 1)
      agree_more s so_far = record { all = λ Z. all_more m (λ P. agrees i h P (present Z room m P)) k (so_far.all Z) (sym (agrees_is Z) ∙ not-false r s) }

      pub agree_not : not r ≡ true → AllAgree node e m n room i h false lengths work
      agree_not q =
          record { comes = λ Z. all_lack m (λ P. agrees i h P (present Z room m P)) n k below (sym (agrees_is Z) ∙ not-true r q) }

    -- only a REVEAL asks
    pub share_agrees : (mt : Meeting) (a : Party) (q : PartySet) → mt ≡ Sharing a q → Agreed node e m mt n room i h true lengths work
    unfolding all_agree
    share_agrees mt a q s = record { comes = λ Z. rw s }

    pub reveal_agrees : (mt : Meeting) (q : PartySet) (r : Bool) → mt ≡ Revealing q → AllAgree node e m n room i h r lengths work
        → Agreed node e m mt n room i h r lengths work
    unfolding all_agree
    reveal_agrees mt q r s all = record { comes = λ Z. rw s (all.comes Z) }
