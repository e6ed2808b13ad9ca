-- What holds between a site that stays, that takes part in a meeting or that parts, and what this makes of it, holds of every site that a meeting leaves. Assumes nothing.
use mathlib.Core.Path.{◌≡◌, refl}
use mathlib.Core.Bool.{Bool, true, false, cond}
use Prim.Native.Nat.{ℕ}
use lib.IntN.{ℤ}
use Rattle.parties.specs.Sets.{member}
use Rattle.parties.specs.declared.sets.PartySet.{PartySet}
use Rattle.rules.specs.Single.{Setting, all_of}
use Rattle.rules.specs.Joint.{Site, Sites, Attendance, attendance, is_there, brought, all_agree, joins, parts, put_all, concluded, meeting, idle}
use Rattle.rules.specs.declared.effects.Meeting.{Meeting}
use Rattle.rules.specs.declared.effects.Offer.{Offer}
use Rattle.rules.specs.declared.effects.Offer.TheVariants.{Empty, Secret}

module _ (S : Setting) (Becomes : ℕ → Site → Site → Type 0) (stays : (P : ℕ) (s : Site) → Becomes P s s) (leaves : (P : ℕ) (s : Site) → Becomes P s (parts P s)) (J : Sites) where
  put_each : (m : PartySet) (f : ℕ → Site → Site) → ((P : ℕ) (s : Site) → Becomes P s (f P s)) → (P : ℕ) → Becomes P (J P) (put_all m f J P)
  unfolding put_all
  put_each m f h P = go (member P m)
    where
      go : (t : Bool) → Becomes P (J P) (cond t (f P (J P)) (J P))
      go true = h P (J P)
      go false = stays P (J P)

  concluded_each : (m : PartySet) (mt : Meeting) (o : Offer) (f : ℕ → Attendance) → ((i : ℤ) (h : PartySet) → o ≡ Secret i h → (P : ℕ) (s : Site) → Becomes P s (joins S i P s))
      → (P : ℕ) → Becomes P (J P) ((concluded S m mt o f J).sites P)
  unfolding concluded
  concluded_each m mt Empty f g P = stays P (J P)
  concluded_each m mt (Secret i h) f g P = go (all_agree mt S.program.parties m i h f)
    where
      go : (t : Bool) → Becomes P (J P) (cond t (put_all m (joins S i) J) (put_all m parts J) P)
      go true = put_each m (joins S i) (g i h refl) P
      go false = put_each m parts leaves P

  -- of a part in the meeting it is asked for the numbers that are brought to it
  pub meeting_each : (e : ℕ) (m : PartySet) (mt : Meeting)
      → ((i : ℤ) (h : PartySet) → brought S.program.parties m (λ Q. attendance S e m Q (J Q)) ≡ Secret i h → (P : ℕ) (s : Site) → Becomes P s (joins S i P s))
      → (P : ℕ) → Becomes P (J P) ((meeting S e m mt J).sites P)
  unfolding meeting
  meeting_each e m mt g P = go (all_of S.program.parties m (λ Q. is_there (f Q)))
    where
      f : ℕ → Attendance
      f Q = attendance S e m Q (J Q)

      go : (t : Bool) → Becomes P (J P) ((cond t (concluded S m mt (brought S.program.parties m f) f J) (idle J)).sites P)
      go true = concluded_each m mt (brought S.program.parties m f) f g P
      go false = stays P (J P)
