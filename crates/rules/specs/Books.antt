-- A party's book: its inputs to come, and its record as a list of events; and what a meeting hands back and writes.
use Rattle.std.specs.Prelude.{ℕ, Bool, true, cond, List, [], ◌∷◌, ◌++◌, ℤ, length, drop}
use Rattle.std.proofs.Math.Option.{Option, none, some}
use Rattle.parties.specs.Sets.{member}
use Rattle.values.specs.declared.value.Value.{Value}
use Rattle.values.specs.declared.value.Value.TheVariants.{Clear, Share}
use Rattle.records.specs.Events.{written, has_room}
use Rattle.records.specs.declared.events.Event.{Event}
use Rattle.records.specs.declared.events.Event.TheVariants.{Read, Wrote, Shared, Opened, Passed, Finished, Stopped}
use Rattle.rules.specs.declared.effects.Meeting.{Meeting}
use Rattle.rules.specs.declared.effects.Meeting.TheVariants.{Sharing, Revealing}

pub record Book : Type 0 where
  pub inputs : List ℤ
  pub events : List Event

-- one book for each party, by its number
abbrev pub Books : Type 0
Books = ℕ → Book

-- at the start nothing is written
abbrev pub opening : (ℕ → List ℤ) → Books
opening inputs P = record { inputs = inputs P; events = [] }

-- the bytes that a record has
unfoldable pub used : Book → ℕ
used b = length (written b.events)

-- what a meeting about the number i hands back: "a share with holders q at q"; "its number, clear at q"
unfoldable pub handed : Meeting → ℤ → Value
handed (Sharing a q) i = Share i q q
handed (Revealing q) i = Clear i q

-- and what it writes
unfoldable pub event_of : Meeting → ℤ → Event
event_of (Sharing a q) i = Shared a q
event_of (Revealing q) i = Opened q i

-- what party P writes of an event of its mode: "reveal, at a site in q", or "at a site of m outside q"
unfoldable pub event_for : ℕ → Event → Event
event_for P (Read i) = Read i
event_for P (Wrote i) = Wrote i
event_for P (Shared a q) = Shared a q
event_for P (Opened q i) = cond (member P q) (Opened q i) (Passed q)
event_for P (Passed q) = Passed q
event_for P (Finished tag i l h) = Finished tag i l h
event_for P (Stopped refusal node) = Stopped refusal node

-- a step that writes nothing needs no room
unfoldable pub room_for : (R P : ℕ) → Option Event → Book → Bool
room_for R P none b = true
room_for R P (some e) b = has_room R (used b) (event_for P e)

-- how many inputs an event takes
abbrev pub taken : Event → ℕ
taken (Read i) = 1
taken (Wrote i) = 0
taken (Shared a q) = 0
taken (Opened q i) = 0
taken (Passed q) = 0
taken (Finished tag i l h) = 0
taken (Stopped refusal node) = 0

unfoldable pub add : Event → Book → Book
add e b = record { inputs = drop (taken e) b.inputs; events = b.events ++ e ∷ [] }

unfoldable pub note : ℕ → Option Event → Book → Book
note P none b = b
note P (some e) b = add (event_for P e) b
