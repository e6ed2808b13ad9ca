-- One site of a joint run: its record, its part in a meeting, and where it is after some turns.
use Rattle.std.specs.Prelude.{ℕ, List, ℤ}
use Rattle.std.proofs.Math.Option.{some}
use Rattle.values.specs.Values.{slice}
use Rattle.records.specs.declared.events.Event.{Event}
use Rattle.rules.specs.Moves.{Control}
use Rattle.rules.specs.Books.{Book, handed, event_of}
use Rattle.rules.specs.Single.{Setting}
use Rattle.rules.specs.Joint.{Site, book_of, settle, run_turns, start_all}
use Rattle.rules.specs.declared.effects.Move.TheVariants.{Hand}
use Rattle.rules.specs.declared.effects.Meeting.{Meeting}

abbrev pub events_of : Site → List Event
events_of s = (book_of s).events

-- what a member's part in a meeting about the number i makes of it
abbrev pub takes_part : Setting → ℕ → Control → Book → Meeting → ℤ → Site
takes_part S P c b mt i = settle S P c b (some (event_of mt i)) (Hand (slice P (handed mt i)))

-- site P of the joint run, after the turns ts
abbrev pub site_after : Setting → (ℕ → List ℤ) → List ℕ → ℕ → Site
site_after S inputs ts P = (run_turns S ts (start_all S inputs)).sites P
