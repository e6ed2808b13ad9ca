-- What a step of a record's walk answers and leaves.
use Rattle.std.specs.Prelude.{◌≡◌, ℕ, pos}
use Rattle.walk.specs.Walk.{StepAnswer, event, end, refused}
use Rattle.records.specs.declared.events.Event.{Event}
use Rattle.records.specs.declared.events.Event.TheVariants.{Read, Wrote, Shared, Opened, Passed, Finished, Stopped}
use Rattle.threadmolar.specs.Answers.{EVENT, END}
use Rattle.threadmolar.specs.declared.walking.Fields.{Fields}

-- the table of kinds 1 to 7 ("Site records"): the kind, and the fields of its body; 0 for a field that the kind does not have
unfoldable pub fields_of : Event → Fields
fields_of (Read i) = record { kind = 1; detail = 0; integer = i; set = 0; holders = 0; node = 0 }
fields_of (Wrote i) = record { kind = 2; detail = 0; integer = i; set = 0; holders = 0; node = 0 }
fields_of (Shared a q) = record { kind = 3; detail = a.index; integer = pos 0; set = q.bits; holders = 0; node = 0 }
fields_of (Opened q i) = record { kind = 4; detail = 0; integer = i; set = q.bits; holders = 0; node = 0 }
fields_of (Passed q) = record { kind = 5; detail = 0; integer = pos 0; set = q.bits; holders = 0; node = 0 }
fields_of (Finished tag i l h) = record { kind = 6; detail = tag; integer = i; set = l.bits; holders = h.bits; node = 0 }
fields_of (Stopped refusal node) = record { kind = 7; detail = refusal; integer = pos 0; set = 0; holders = 0; node = node }

-- the number of a step's answer: refusal 12 without its place, which is the one that was asked about
unfoldable pub step_number : StepAnswer → ℕ
step_number (event e next) = EVENT
step_number end = END
step_number (refused number place) = number

-- what the place for where the next event starts holds after it, given what it held
unfoldable pub next_left : StepAnswer → ℕ → ℕ
next_left (event e next) held = next
next_left end held = held
next_left (refused number place) held = held

-- what the places for the event's fields hold after it, given what they held
unfoldable pub fields_left : StepAnswer → Fields → Fields
fields_left (event e next) held = fields_of e
fields_left end held = held
fields_left (refused number place) held = held

-- the number, and everything that the call leaves
pub record Walks (a : StepAnswer) (r k : ℕ) (f : Fields) (k' : ℕ) (f' : Fields) : Type 0 where
  pub number : r ≡ step_number a
  pub next : k' ≡ next_left a k
  pub fields : f' ≡ fields_left a f
