-- Writing an event: of kinds 1 to 5 under the room test, of 6 and 7 in what was held back. The record is the whole slice, R its length.
use Rattle.std.specs.Prelude.{ℕ, ◌+◌, ◌≡◌, cond, List, leb, length, Option, Some, None}
use Rattle.std.proofs.lemmas.List.Edits.{sets}
use Rattle.records.specs.Events.{event_bytes, has_room, held_back}
use Rattle.records.specs.declared.events.Event.{Event}

-- after `used` bytes of the record xs: the answer r, and the bytes ys that are left
pub record Appends (e : Event) (used : ℕ) (xs : List ℕ) (r : Option ℕ) (ys : List ℕ) : Type 0 where
  pub answer : r ≡ cond (has_room (length xs) used e) (Some (used + length (event_bytes e))) None
  pub bytes : ys ≡ cond (has_room (length xs) used e) (sets xs used (event_bytes e)) xs

-- the last event, after `used` bytes of the record xs: the bytes r then used, and the bytes ys that are left
pub record Closes (e : Event) (used : ℕ) (xs : List ℕ) (r : ℕ) (ys : List ℕ) : Type 0 where
  pub answer : r ≡ cond (leb (used + held_back) (length xs)) (used + length (event_bytes e)) used
  pub bytes : ys ≡ cond (leb (used + held_back) (length xs)) (sets xs used (event_bytes e)) xs
