-- What a site is asked to do, from what its node's rule says and from its room. Assumes nothing.
use mathlib.Core.Path.{◌≡◌, refl, sym, ap, ◌∙◌, subst}
use mathlib.Core.Bool.{Bool, true, false}
use mathlib.Core.List.{List, [], ◌∷◌}
use mathlib.Core.Option.{some}
use Prim.Native.Nat.{ℕ}
use denote.Enum.{Declared.tag_of}
use types.Run.{OneOf, miss}
use lib.IntN.{pos}
use Rattle.std.specs.Prelude.{Option, Some, None}
use Rattle.limits.specs.declared.Party.{Party}
use Rattle.parties.specs.declared.sets.PartySet.{PartySet}
use Rattle.program.specs.Check.{Program, node_at}
use Rattle.nodes.specs.Nodes.{joint_node, IsJoint}
use Rattle.nodes.specs.declared.Node.{Node}
use Rattle.nodes.specs.declared.JointNode.{JointNode}
use Rattle.nodes.specs.declared.JointNode.TheVariants.{SHARE as SHARE', REVEAL as REVEAL', Neither}
use Rattle.records.specs.Events.{has_room}
use Rattle.refusals.specs.declared.Refusal.TheVariants.{NoRoom}
use Rattle.rules.specs.Books.{Book, used, event_of, event_for, room_for}
use Rattle.rules.specs.Moves.{Control}
use Rattle.rules.specs.Names.{Names}
use Rattle.rules.specs.Rules.{rule}
use Rattle.rules.specs.Single.{Setting}
use Rattle.rules.specs.Joint.{perform_own, own, acts}
use Rattle.rules.specs.declared.effects.View.{View}
use Rattle.rules.specs.declared.effects.View.TheVariants.{Site}
use Rattle.rules.specs.declared.effects.Meeting.{Meeting}
use Rattle.rules.specs.declared.effects.Offer.{Offer}
use Rattle.rules.specs.declared.effects.Effect.{Effect}
use Rattle.rules.specs.declared.effects.Effect.TheVariants.{Refuse, Goes, Reads, Writes, Meets}
use Rattle.rules.specs.contracts.effects.Effect.{the_type}
use Rattle.lookup.specs.Lookup.{joint_rule, Unmet}
use Rattle.lookup.proofs.JointLaws.{joint_rule_lem, unmet}
use Rattle.area.specs.Levels.{names_at, control_of}
use Rattle.area.specs.declared.stand.Stand.{Stand}
use Rattle.advance.specs.Advances.{rule_of, Asked}
use Rattle.advance.proofs.AdvanceLaws.{joint_asked}
use Rattle.site.specs.Own.{acted, own_of, Weighs, Owns, meeting_of, Invites}
use Rattle.site.specs.declared.own.Own.{Own}
use Rattle.site.specs.declared.own.Own.TheVariants.{Acts, Attends}
use Rattle.site.specs.declared.own.Invitation.{Invitation}

-- ---- an effect that is no meeting
pub no_meeting : (effect : Effect) → OneOf (0 ∷ 1 ∷ 2 ∷ 3 ∷ []) (tag_of the_type effect) → Unmet effect
no_meeting (Refuse r) h = tt
no_meeting (Goes mv) h = tt
no_meeting Reads h = tt
no_meeting (Writes i) h = tt
no_meeting (Meets mt o) h = miss (0 ∷ 1 ∷ 2 ∷ 3 ∷ []) 4 tt h

pub not_met : (effect : Effect) → Unmet effect → None ≡ meeting_of effect
not_met (Refuse r) h = refl
not_met (Goes mv) h = refl
not_met Reads h = refl
not_met (Writes i) h = refl
not_met (Meets mt o) h = absurd h

invites_none : (effect : Effect) → None ≡ meeting_of effect → Unmet effect
invites_none (Refuse r) h = tt
invites_none (Goes mv) h = tt
invites_none Reads h = tt
invites_none (Writes i) h = tt
invites_none (Meets mt o) h = cc

is_meeting : (i : Invitation) (effect : Effect) → Some i ≡ meeting_of effect → effect ≡ Meets i.meeting i.offer
is_meeting i (Refuse r) h = cc
is_meeting i (Goes mv) h = cc
is_meeting i Reads h = cc
is_meeting i (Writes j) h = cc
is_meeting i (Meets nt p) h = cc

acts_alone : (S : Setting) (P : ℕ) (c : Control) (b : Book) (effect : Effect) → Unmet effect → perform_own S P c b effect ≡ acts (acted S P c b effect)
unfolding perform_own acted
acts_alone S P c b (Refuse r) h = refl
acts_alone S P c b (Goes mv) h = refl
acts_alone S P c b Reads h = refl
acts_alone S P c b (Writes i) h = refl
acts_alone S P c b (Meets mt o) h = absurd h

-- ---- an effect, weighed
module _ (P : ℕ) (effect : Effect) (room u : ℕ) where
  pub weighs_acts : Unmet effect → Weighs P effect room u (Acts effect)
  weighs_acts h = record { comes = λ p c b q. acts_alone (record { program = p; room = room }) P c b effect h; alone = h; asked = λ k. k }

  -- a meeting, by whether there is room for what the site writes of it
  module _ (mt : Meeting) (o : Offer) (meets : effect ≡ Meets mt o) (has : Bool) (room-is : has ≡ has_room room u (event_for P (event_of mt (pos 0)))) where
    room_of : (b : Book) → used b ≡ u → room_for room P (some (event_of mt (pos 0))) b ≡ has
    unfolding room_for
    room_of b q = rw q (sym room-is)

    pub weighs_attends : has ≡ true → Weighs P effect room u (Attends mt o)
    unfolding perform_own
    weighs_attends h = record { comes = λ p c b q. rw (meets, room_of b q, h); alone = tt; asked = λ k. tt }

    pub weighs_lacks : has ≡ false → Weighs P effect room u (Acts (Refuse NoRoom))
    unfolding perform_own acted
    weighs_lacks h = record { comes = λ p c b q. rw (meets, room_of b q, h); alone = tt; asked = λ k. tt }

-- ---- what the rule of a joint node asks for

-- to know of a meeting it is enough to know the joint node
same_meeting : (view : View) (n : Node) (m : PartySet) (b : Names) → meeting_of (joint_rule view (joint_node n) m b) ≡ meeting_of (rule view n m b)
same_meeting view n m b = go (joint_node n) refl
  where
    joint : (j : JointNode) → joint_node n ≡ j → IsJoint j → meeting_of (joint_rule view j m b) ≡ meeting_of (rule view n m b)
    joint j e h = ap meeting_of (rw e at (joint_rule_lem view n m b (rw e h)))

    go : (j : JointNode) → joint_node n ≡ j → meeting_of (joint_rule view j m b) ≡ meeting_of (rule view n m b)
    go (SHARE' a q x) e = joint (SHARE' a q x) e tt
    go (REVEAL' q x) e = joint (REVEAL' q x) e tt
    go Neither e = not_met (rule view n m b) (unmet view n m b e)

-- ---- a site that stands at t
module _ (P : Party) (t : Stand) (room u : ℕ) (w : List ℕ) where
  -- what it does at its node of the program p
  pub owned : (effect : Effect) (r : Own) (p : Program) (b : Book) → effect ≡ rule_of (Site P) (node_at p t.node) t w → Weighs P.index effect room u r → used b ≡ u
      → own (record { program = p; room = room }) P.index (control_of t w) b ≡ own_of (record { program = p; room = room }) P.index (control_of t w) b r
  unfolding own control_of
  owned effect r p b asks k q = rw (← asks) (k.comes p (control_of t w) b q)

  module _ (node : JointNode) where
    pub owns : (effect : Effect) (r : Own) → effect ≡ joint_rule (Site P) node t.mode (names_at w t.depth.frames) → Weighs P.index effect room u r → Owns node P t room u r w
    owns effect r asks k =
        record {
          comes = λ p same joint b q.
              let n : Node = node_at p t.node in
              let a : joint_rule (Site P) node t.mode (names_at w t.depth.frames) ≡ rule_of (Site P) n t w
              = rw same (joint_rule_lem (Site P) n t.mode (names_at w t.depth.frames) (rw same at joint)) in
              owned effect r p b (asks ∙ a) k q;
          alone = k.alone;
          asked = k.asked (subst Asked (sym asks) (joint_asked (Site P) node t.mode (names_at w t.depth.frames)));
        }

    module _ (r : Option Invitation) (asks : r ≡ meeting_of (joint_rule (Site P) node t.mode (names_at w t.depth.frames))) where
      invited_as : (p : Program) → node ≡ joint_node (node_at p t.node) → r ≡ meeting_of (rule_of (Site P) (node_at p t.node) t w)
      invited_as p same = (rw same at asks) ∙ same_meeting (Site P) (node_at p t.node) t.mode (names_at w t.depth.frames)

      pub invites_not : r ≡ None → Invites node P t room u None w
      invites_not h =
          record {
            comes = λ p same b q.
                let effect : Effect = rule_of (Site P) (node_at p t.node) t w in
                let none : Unmet effect = invites_none effect (sym h ∙ invited_as p same) in
                (_, owned effect (Acts effect) p b refl (weighs_acts P.index effect room u none) q);
          }

      module _ (i : Invitation) (meets : r ≡ Some i) (has : Bool) (room-is : has ≡ has_room room u (event_for P.index (event_of i.meeting (pos 0)))) where
        meets_at : (p : Program) → node ≡ joint_node (node_at p t.node) → rule_of (Site P) (node_at p t.node) t w ≡ Meets i.meeting i.offer
        meets_at p same = is_meeting i (rule_of (Site P) (node_at p t.node) t w) (sym meets ∙ invited_as p same)

        pub invites_to : has ≡ true → Invites node P t room u (Some i) w
        invites_to h =
            record {
              comes = λ p same b q.
                  owned (Meets i.meeting i.offer) (Attends i.meeting i.offer) p b (sym (meets_at p same)) (weighs_attends P.index (Meets i.meeting i.offer) room u i.meeting i.offer refl has room-is h) q;
            }

        pub invites_lacks : has ≡ false → Invites node P t room u None w
        invites_lacks h =
            record {
              comes = λ p same b q.
                  (_, owned (Meets i.meeting i.offer) (Acts (Refuse NoRoom)) p b (sym (meets_at p same)) (weighs_lacks P.index (Meets i.meeting i.offer) room u i.meeting i.offer refl has room-is h) q);
            }
