-- The values opened in a record that goes on. Assumes nothing.
use mathlib.Core.Path.{◌≡◌, refl, sym, ap, ◌∙◌}
use mathlib.Core.List.{List, [], ◌∷◌, ◌++◌, append_assoc}
use Rattle.records.specs.declared.events.Event.{Event}
use Rattle.invariants.specs.Begins.{Begins}
use Rattle.demands.specs.Opened.{openings}

pub openings_append : (xs ys : List Event) → openings (xs ++ ys) ≡ openings xs ++ openings ys
openings_append [] ys = refl
openings_append (e ∷ xs) ys = rw (openings_append xs ys, append_assoc)

-- where a record begins another, its openings begin the other's
pub openings_begin : {xs ys : List Event} → Begins xs ys → Begins (openings xs) (openings ys)
openings_begin {xs} h = record { rest = openings h.rest; is = sym (openings_append xs h.rest) ∙ ap openings h.is }
