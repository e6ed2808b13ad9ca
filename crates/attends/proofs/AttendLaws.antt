-- Whether a site is at a meeting, from where it stands and what it is asked to do. Assumes nothing.
use mathlib.Core.Path.{◌≡◌}
use mathlib.Core.Bool.{true, false}
use mathlib.Core.List.{List}
use Prim.Native.Nat.{ℕ}
use borrow.Author.Tests.{ne_eqb, eq-eqb}
use Rattle.std.specs.Prelude.{Option, Some, None}
use Rattle.parties.specs.Sets.{same_set}
use Rattle.limits.specs.declared.Party.{Party}
use Rattle.parties.specs.declared.sets.PartySet.{PartySet}
use Rattle.nodes.specs.declared.JointNode.{JointNode}
use Rattle.rules.specs.Joint.{attendance}
use Rattle.rules.specs.declared.effects.Offer.{Offer}
use Rattle.area.specs.Levels.{control_of}
use Rattle.seats.specs.Seats.{seat_at, site_of}
use Rattle.area.specs.declared.stand.Stand.{Stand}
use Rattle.seats.specs.declared.Seat.{Seat}
use Rattle.seats.specs.declared.Seat.TheVariants.{Running, Finished, Stopped}
use Rattle.site.specs.Own.{Invites}
use Rattle.attends.specs.Attends.{AttendsFrom, IsAt}
use Rattle.site.specs.declared.own.Invitation.{Invitation}

-- ---- a site that stands at t
module _ (node : JointNode) (t : Stand) (e : ℕ) (m : PartySet) (P : Party) (room u : ℕ) (w : List ℕ) where
  pub at_node : (t.node ≡ e → ⊥) → AttendsFrom node t e m P room u None w
  unfolding attendance control_of
  at_node h = record { comes = λ p read b o. rw (ne_eqb t.node e h) }

  module _ (same : t.node ≡ e) where
    pub at_mode : same_set t.mode m ≡ false → AttendsFrom node t e m P room u None w
    unfolding attendance control_of
    at_mode h = record { comes = λ p read b o. rw (eq-eqb t.node e same, h) }

    module _ (mode : same_set t.mode m ≡ true) (r : Option Invitation) (invites : Invites node P t room u r w) where
      pub at_not : r ≡ None → AttendsFrom node t e m P room u None w
      unfolding attendance control_of
      at_not q =
          let no : Invites node P t room u None w = rw q at invites in
          record { comes = λ p read b o. rw (eq-eqb t.node e same, mode, (no.comes p (rw same read) b o).1) }

      pub at_there : (i : Invitation) → r ≡ Some i → AttendsFrom node t e m P room u (Some i.offer) w
      unfolding attendance control_of
      at_there i q =
          let to : Invites node P t room u (Some i) w = rw q at invites in
          record { comes = λ p read b u. rw (eq-eqb t.node e same, mode, to.comes p (rw same read) b u) }

-- ---- any site
module _ (node : JointNode) (e : ℕ) (m : PartySet) (P : Party) (room u : ℕ) (w : List ℕ) (seat : Seat) (sits : seat ≡ seat_at w) where
  pub at_running : (t : Stand) (r : Option Offer) → seat ≡ Running t → AttendsFrom node t e m P room u r w → IsAt node e m P room u r w
  unfolding site_of
  at_running t r runs a = record { comes = λ p read b o. rw (← sits, runs) (a.comes p read b o) }

  pub at_finished : seat ≡ Finished → IsAt node e m P room u None w
  unfolding attendance site_of
  at_finished over = record { comes = λ p read b o. rw (← sits, over) }

  pub at_stopped : seat ≡ Stopped → IsAt node e m P room u None w
  unfolding attendance site_of
  at_stopped over = record { comes = λ p read b o. rw (← sits, over) }
