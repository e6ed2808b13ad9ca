-- "A record is walked event by event" (document 01, "Site records").
use Rattle.std.specs.Prelude.{ℕ, zero, suc, ◌+◌, Bool, ◌&&◌, cond, List, [], ◌∷◌, leb, length, get_or, drop, Option, Some, None}
use Rattle.words.specs.Words.{number_at, integer_at}
use Rattle.parties.specs.Sets.{none}
use Rattle.parties.specs.SetBytes.{set_at}
use Rattle.refusals.specs.Numbers.{not_an_event}
use Rattle.records.specs.declared.events.Event.{Event}
use Rattle.records.specs.declared.events.Event.TheVariants.{Read, Wrote, Shared, Opened, Passed, Finished, Stopped}
use Rattle.walk.specs.declared.Step.{Step}
use Rattle.walk.specs.declared.Step.TheVariants as Step'

abbrev pub is_event_kind : ℕ → Bool
is_event_kind kind = leb 1 kind && leb kind 7

-- the length of the body of kinds 1 to 7
unfoldable pub body_width : ℕ → ℕ
body_width kind = get_or (0 ∷ 4 ∷ 4 ∷ 3 ∷ 6 ∷ 2 ∷ 9 ∷ 3 ∷ []) kind 0

unfoldable pub width_of : ℕ → Option ℕ
width_of kind = cond (is_event_kind kind) (Some (body_width kind)) None

-- the event of a kind whose body stands at the head of b: "an event's other bytes aren't tested"
unfoldable pub event_from : ℕ → List ℕ → Event
event_from kind b =
    get_or (Passed none
    ∷ Read (integer_at b 0)
    ∷ Wrote (integer_at b 0)
    ∷ Shared (record { index = get_or b 0 0 }) (set_at b 1)
    ∷ Opened (set_at b 0) (integer_at b 2)
    ∷ Passed (set_at b 0)
    ∷ Finished (get_or b 0 0) (integer_at b 1) (set_at b 5) (set_at b 7)
    ∷ Stopped (get_or b 0 0) (number_at 2 b 1)
    ∷ []) kind (Passed none)

-- an event that begins with `kind` before the bytes bs is known and not cut
unfoldable pub is_whole : ℕ → List ℕ → Bool
is_whole kind bs = is_event_kind kind && leb (body_width kind) (length bs)

-- "the event and what follows, or the end, or refusal 12 with the byte of the event that is cut or unknown"
pub data StepAnswer : Type 0 where
  event : Event → (next : ℕ) → StepAnswer
  end : StepAnswer
  refused : (number place : ℕ) → StepAnswer

abbrev pub step_of : (kind place : ℕ) → List ℕ → StepAnswer
step_of kind place bs = cond (is_whole kind bs) (event (event_from kind bs) (place + 1 + body_width kind)) (refused not_an_event place)

-- a step of the walk at a place; at or past the end is the end
unfoldable pub step_answer : List ℕ → ℕ → StepAnswer
step_answer xs place = cond (leb (length xs) place) end (step_of (get_or xs place 0) place (drop (place + 1) xs))

-- what the code's answer says
abbrev pub told : Step → StepAnswer
told (Step'.Event e next) = event e next.at
told Step'.End = end
told (Step'.Bad place) = refused not_an_event place

-- ---- the whole walk

pub data Walked : Type 0 where
  ends : Walked
  stops : (number place : ℕ) → Walked
  and_then : Event → Walked → Walked

-- from a place on, where `skip` bytes of a body are still to pass
unfoldable pub walk_from : (place skip : ℕ) → List ℕ → Walked
walk_from place skip [] = ends
walk_from place (suc skip) (b ∷ bs) = walk_from (place + 1) skip bs
walk_from place zero (kind ∷ bs) =
    cond (is_whole kind bs) (and_then (event_from kind bs) (walk_from (place + 1) (body_width kind) bs)) (stops not_an_event place)

unfoldable pub walk : List ℕ → Walked
walk xs = walk_from 0 0 xs
