-- What a walk of a record finds.
use Rattle.std.specs.Prelude.{ℕ, List, [], ◌∷◌}
use Rattle.walk.specs.Walk.{Walked, ends, stops, and_then, walk}
use Rattle.records.specs.declared.events.Event.{Event}

abbrev pub found : Walked → List Event
found ends = []
found (stops number place) = []
found (and_then e w) = e ∷ found w

-- the events of a record
abbrev pub events_in : List ℕ → List Event
events_in bs = found (walk bs)
