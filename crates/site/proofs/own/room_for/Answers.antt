-- `site::own::room_for` meets its contract. Assumes nothing.
use mathlib.Core.Path.{ap, ◌∙◌}
use Rattle.records.specs.Events.{has_room}
use Rattle.rules.specs.Books.{event_for}
use Rattle.site.proofs.own.room_for.Goals as goal

pub returns : goal.returns
returns c = let a = c.args in
    c.has_room.ensures ∙ ap (has_room a.room a.used) (c.event_for.ensures ∙ ap (event_for a.p.index) c.event_of.ensures)
