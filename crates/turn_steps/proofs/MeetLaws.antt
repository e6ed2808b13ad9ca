-- A meeting of all members in the lent bytes, from what was gathered, agreed and concluded. Assumes nothing.
use mathlib.Core.Path.{◌≡◌, refl, sym, ap, ◌∙◌, subst}
use mathlib.Core.Bool.{Bool, true, false, cond}
use mathlib.Core.List.{List}
use mathlib.Core.Option.{some}
use Prim.Native.Nat.{ℕ}
use Rattle.std.specs.Bool.{then_some}
use lib.IntN.{ℤ}
use Rattle.std.specs.Prelude.{Option, Some, None}
use Rattle.parties.specs.Sets.{member}
use Rattle.parties.specs.declared.sets.PartySet.{PartySet}
use Rattle.nodes.specs.Nodes.{joint_node}
use Rattle.nodes.specs.declared.JointNode.{JointNode}
use Rattle.program.specs.Check.{node_at}
use Rattle.rules.specs.Rules.{joint_meeting}
use Rattle.rules.specs.Single.{Setting, all_of}
use Rattle.rules.specs.Joint.{Site, Sites, running, over, Attendance, attendance, is_there, brought, joins, joins_by, parts, put_all, all_agree, concluded, meeting, idle, counted}
use Rattle.rules.specs.declared.effects.Meeting.{Meeting}
use Rattle.rules.specs.declared.effects.Offer.{Offer}
use Rattle.rules.specs.declared.effects.Offer.TheVariants.{Empty, Secret}
use Rattle.invariants.proofs.AllOfLaws.{all_member}
use Rattle.invariants.proofs.AttendsLaws.{there_attends}
use Rattle.meets.specs.Places.{setting_of, Given, Stands}
use Rattle.meets.specs.Meets.{gathered, Sitting, Gathers, Agreed}
use Rattle.concludes.specs.Concludes.{concluding, ConcludesAll}
use Rattle.turn_steps.specs.Steps.{Meets}
use Rattle.concludes.specs.declared.Joined.{Joined}
use Rattle.concludes.proofs.StandLaws.{stands_same, stands_sits}

-- what was gathered, taken apart
missing_not : (t : Bool) (o : Offer) → None ≡ cond t (Some o) None → t ≡ false
missing_not true o h = cc
missing_not false o h = refl

all_there : (t : Bool) (o x : Offer) → Some x ≡ cond t (Some o) None → (t ≡ true) × (o ≡ x)
all_there true o x h = (refl, cc)
all_there false o x h = absurd (cc)

-- a meeting of k parties
meeting_by : (S : Setting) (e : ℕ) (m : PartySet) (mt : Meeting) (J : Sites) (k : ℕ) → S.program.parties ≡ k
    → let f : ℕ → Attendance = λ P. attendance S e m P (J P) in
    meeting S e m mt J ≡ cond (all_of k m (λ P. is_there (f P))) (concluded S m mt (brought k m f) f J) (idle J)
unfolding meeting
meeting_by S e m mt J k q =
    let f : ℕ → Attendance = λ P. attendance S e m P (J P) in
    subst (λ (k : ℕ). meeting S e m mt J ≡ cond (all_of k m (λ P. is_there (f P))) (concluded S m mt (brought k m f) f J) (idle J)) q refl

concluded_by : (S : Setting) (m : PartySet) (mt : Meeting) (i : ℤ) (h : PartySet) (f : ℕ → Attendance) (J : Sites) (k : ℕ) (b : Bool) → S.program.parties ≡ k → b ≡ all_agree mt k m i h f
    → concluded S m mt (Secret i h) f J ≡ counted (cond b (put_all m (joins S i) J) (put_all m parts J))
unfolding concluded
concluded_by S m mt i h f J k b q a =
    ap (λ (t : Bool). counted (cond t (put_all m (joins S i) J) (put_all m parts J))) (ap (λ (x : ℕ). all_agree mt x m i h f) q ∙ sym a)

-- the meeting, and the number that it is about
abbrev to : Meeting → ℤ → Joined
to mt i = record { meeting = mt; number = i }

-- whoever is at the meeting and joins it comes to what its outcome says
module _ (S : Setting) (e : ℕ) (m : PartySet) (mt : Meeting) (i : ℤ) (asks : joint_meeting (node_at S.program e) ≡ some mt) (P : ℕ) where
  joins_concludes : (s : Site) → is_there (attendance S e m P s) ≡ true → joins S i P s ≡ concluding (Some (to mt i)) S P s
  unfolding joins joins_by
  joins_concludes (running c b) r = rw (there_attends S e m P c b mt asks r).1
  joins_concludes (over f b) r = refl

  joined : (J : Sites) → (member P m ≡ true → is_there (attendance S e m P (J P)) ≡ true) → put_all m (joins S i) J P ≡ put_all m (concluding (Some (to mt i)) S) J P
  unfolding put_all
  joined J h = go (member P m) h
    where
      go : (t : Bool) → (t ≡ true → is_there (attendance S e m P (J P)) ≡ true) → cond t (joins S i P (J P)) (J P) ≡ cond t (concluding (Some (to mt i)) S P (J P)) (J P)
      go true h = joins_concludes (J P) (h refl)
      go false h = refl

module _ (node : JointNode) (e : ℕ) (m : PartySet) (mt : Meeting) (n room : ℕ) (bytes lengths work : List ℕ) (r : Option Offer) (gathers : Gathers node e m n room r lengths work) where
  module _ {bs : List ℕ} {nodes : ℕ} (G : Given bs nodes room n) (J : Sites) (read : node ≡ joint_node (node_at G.program e)) (st : Stands G J bytes lengths work) where
    abbrev at : ℕ → Attendance
    at P = attendance (setting_of G.program room) e m P (J P)

    abbrev sitting : Sitting node e n lengths work
    sitting = record { program = G.program; read = read; sites = J; sits = λ P h. stands_sits G J J bytes lengths work st P h }

    there_not : r ≡ None → meeting (setting_of G.program room) e m mt J ≡ idle J
    unfolding gathered
    there_not q =
        let t : all_of n m (λ P. is_there (at P)) ≡ false = missing_not (all_of n m (λ P. is_there (at P))) (brought n m at) (sym q ∙ gathers.comes sitting) in
        meeting_by (setting_of G.program room) e m mt J n G.parties ∙ rw t

    gathered_all : (o : Offer) → r ≡ Some o → (all_of n m (λ P. is_there (at P)) ≡ true) × (brought n m at ≡ o)
    unfolding gathered
    gathered_all o q = all_there (all_of n m (λ P. is_there (at P))) (brought n m at) o (sym q ∙ gathers.comes sitting)

    there_all : (o : Offer) → r ≡ Some o → meeting (setting_of G.program room) e m mt J ≡ concluded (setting_of G.program room) m mt o at J
    there_all o q =
        let t = gathered_all o q in
        meeting_by (setting_of G.program room) e m mt J n G.parties ∙ rw (t.0, t.1)

  -- nothing changes
  pub meets_missing : r ≡ None → Meets node e m mt n room false bytes lengths work bytes lengths work
  meets_missing q = record { comes = λ bs nodes G J read asks st. rw (there_not G J read st q) (st, refl) }

  pub meets_empty : r ≡ Some Empty → Meets node e m mt n room false bytes lengths work bytes lengths work
  unfolding concluded
  meets_empty q = record { comes = λ bs nodes G J read asks st. rw (there_all G J read st Empty q) (st, refl) }

  module _ (i : ℤ) (h : PartySet) (all : r ≡ Some (Secret i h)) (b : Bool) (agrees : Agreed node e m mt n room i h b lengths work) (bytes' lengths' work' : List ℕ) where
    module _ {bs : List ℕ} {nodes : ℕ} (G : Given bs nodes room n) (J : Sites) (read : node ≡ joint_node (node_at G.program e)) (st : Stands G J bytes lengths work) where
      agreed_is : meeting (setting_of G.program room) e m mt J ≡ counted (cond b (put_all m (joins (setting_of G.program room) i) J) (put_all m parts J))
      agreed_is =
          there_all G J read st (Secret i h) all
          ∙ concluded_by (setting_of G.program room) m mt i h (at G J read st) J n b G.parties (agrees.comes (sitting G J read st))

      come_to : (outcome : Option Joined) → ConcludesAll outcome m n room bytes lengths work bytes' lengths' work' → joint_meeting (node_at G.program e) ≡ some mt
          → (x : Bool) → outcome ≡ then_some x (to mt i)
          → Stands G (cond x (put_all m (joins (setting_of G.program room) i) J) (put_all m parts J)) bytes' lengths' work'
      come_to outcome k asks true d =
          let S : Setting = setting_of G.program room in
          let there : all_of n m (λ P. is_there (at G J read st P)) ≡ true = (gathered_all G J read st (Secret i h) all).0 in
          stands_same G (put_all m (concluding (Some (to mt i)) S) J) (put_all m (joins S i) J) bytes' lengths' work' ((rw d at k).comes bs nodes G J st)
          (λ Q h. joined S e m mt i asks Q J (λ inside. all_member m (λ P. is_there (at G J read st P)) n there Q h inside))
      come_to outcome k asks false d = (rw d at k).comes bs nodes G J st

    pub meets_done : (outcome : Option Joined) → outcome ≡ then_some b (to mt i) → ConcludesAll outcome m n room bytes lengths work bytes' lengths' work'
        → Meets node e m mt n room true bytes lengths work bytes' lengths' work'
    meets_done outcome q k = record { comes = λ bs nodes G J read asks st. rw (agreed_is G J read st) (come_to G J read st outcome k asks b q, refl) }
