-- Writing an event: runs of stores that follow each other, the length of what an arm writes, and the room for it. Assumes nothing.
use mathlib.Core.Path.{◌≡◌, sym, ◌∙◌}
use mathlib.Core.List.{List, ◌++◌}
use mathlib.Core.Bool.{Bool, true}
use Prim.Native.Nat.{ℕ, ◌+◌, ◌≤◌}
use lib.ListN.{length}
use lib.Seq.{sets}
use borrow.Author.Tests.{leb-true}
use Rattle.stretches.proofs.StretchLaws.{sets_append}
use Rattle.records.specs.Events.{event_bytes, held_back, has_room}
use Rattle.records.specs.EventLaws.{sized, event_length}
use Rattle.records.specs.declared.events.Event.{Event}

-- a run of stores right after another
pub run_after : (us vs xs x1 x2 : List ℕ) (at : ℕ) → x1 ≡ sets xs at us → x2 ≡ sets x1 (at + length us) vs → x2 ≡ sets xs at (us ++ vs)
run_after us vs xs x1 x2 at e1 e2 = rw (e2, e1) (sets_append us vs xs at)

-- the event e, found to be d
module _ (e d : Event) (is : e ≡ d) where
  pub size_is : sized d ≡ length (event_bytes e)
  size_is = rw is (sym (event_length d))

  pub room_for : (at n : ℕ) → at + length (event_bytes e) ≤ n → at + sized d ≤ n
  room_for at n h = rw (is, event_length d) at h

  pub stored_is : (xs ys : List ℕ) (at : ℕ) → ys ≡ sets xs at (event_bytes d) → ys ≡ sets xs at (event_bytes e)
  stored_is xs ys at h = rw is h

-- ---- the room test
module _ (R used : ℕ) (e : Event) where
  -- where there is room the event fits
  pub has_fits : (t : Bool) → t ≡ has_room R used e → t ≡ true → used + length (event_bytes e) + held_back ≤ R
  unfolding has_room
  has_fits t a h = leb-true (used + length (event_bytes e) + held_back) R (sym a ∙ h)
