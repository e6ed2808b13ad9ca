-- Where a reader of a record stands once it has moved on, and that it then reads the record's walk. Assumes nothing.
use Rattle.std.specs.Prelude.{ℕ, ◌≡◌, List, drop}
use Rattle.std.proofs.Common.{◌∙◌}
use Rattle.records.specs.declared.events.Event.{Event}
use Rattle.walk.specs.Walk.{StepAnswer, event, end, refused, step_answer, Walked, and_then, walk_from}
use Rattle.walk.specs.WalkLaws.{walk_steps}

-- the place after an answer that was given at a place: past an event; the end and a refused event are stayed at
abbrev pub place_next : StepAnswer → ℕ → ℕ
place_next (event e next) place = next
place_next end place = place
place_next (refused number byte) place = place

unfoldable pub place_after : List ℕ → ℕ → ℕ
place_after xs place = place_next (step_answer xs place) place

-- the walk of a record from a place on
abbrev pub walk_at : List ℕ → ℕ → Walked
walk_at xs place = walk_from place 0 (drop place xs)

-- where an event is read, the walk from that place on is the event, and then the walk from where the reader has moved on to
pub walk_moves_on : (xs : List ℕ) (place : ℕ) (e : Event) (next : ℕ) → step_answer xs place ≡ event e next → walk_at xs place ≡ and_then e (walk_at xs (place_after xs place))
unfolding place_after
walk_moves_on xs place e next h = walk_steps xs place ∙ rw h
