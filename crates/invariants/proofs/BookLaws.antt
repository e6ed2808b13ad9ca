-- A book with an event more: its bytes, how many it has used, and the inputs that it still has. Assumes nothing.
use mathlib.Core.Path.{◌≡◌, refl, ap, ◌∙◌}
use mathlib.Core.Bool.{Bool, true, false, cond}
use mathlib.Core.List.{List, [], ◌∷◌, ◌++◌, append-nil}
use mathlib.Core.Option.{some}
use Prim.Native.Nat.{ℕ, ◌+◌}
use lib.IntN.{ℤ}
use lib.ListN.{length, drop, length-append}
use Rattle.parties.specs.Sets.{member}
use Rattle.records.specs.Events.{event_bytes, written}
use Rattle.records.specs.EventLaws.{written_append}
use Rattle.records.specs.declared.events.Event.{Event}
use Rattle.records.specs.declared.events.Event.TheVariants.{Opened, Passed}
use Rattle.rules.specs.Books.{Book, used, event_of, event_for, taken, add, note}
use Rattle.rules.specs.declared.effects.Meeting.{Meeting}
use Rattle.rules.specs.declared.effects.Meeting.TheVariants.{Sharing, Revealing}

pub written_one : (e : Event) → written (e ∷ []) ≡ event_bytes e
unfolding written
written_one e = append-nil (event_bytes e)

-- an event more comes behind the others
pub added : (e : Event) (b : Book) → written (add e b).events ≡ written b.events ++ event_bytes e
unfolding add
added e b = written_append b.events (e ∷ []) ∙ ap (λ (l : List ℕ). written b.events ++ l) (written_one e)

-- and takes its bytes
pub used_added : (e : Event) (b : Book) → used (add e b) ≡ used b + length (event_bytes e)
unfolding used
used_added e b = ap length (added e b) ∙ length-append (written b.events) (event_bytes e)

-- a meeting takes no input
pub none_taken : (P : ℕ) (mt : Meeting) (i : ℤ) (b : Book) → (note P (some (event_of mt i)) b).inputs ≡ b.inputs
unfolding note add event_of event_for
none_taken P (Sharing a q) i b = refl
none_taken P (Revealing q) i b = go (member P q)
  where
    go : (t : Bool) → drop (taken (cond t (Opened q i) (Passed q))) b.inputs ≡ b.inputs
    go true = refl
    go false = refl
