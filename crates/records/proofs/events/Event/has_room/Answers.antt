-- `records::events::Event::has_room` meets its contract. Assumes nothing.
use mathlib.Core.Path.{ap, ◌∙◌}
use native.Mathlib.Omega.{arith}
use Rattle.records.specs.EventLaws.{event_short}
use Rattle.records.specs.Events.{fits_after, has_room}
use Rattle.records.proofs.events.Event.has_room.Goals as goal

pub fits-requires : goal.fits-requires
fits-requires c = omega (arith, event_short c.args.self, c.size.ensures)

pub returns : goal.returns
unfolding has_room
returns c = let a = c.args in c.fits.ensures ∙ ap (fits_after a.room a.used) c.size.ensures
