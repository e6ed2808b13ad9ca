-- What a record of a run under way leaves of its room, and a site whose record is within it.
use Rattle.std.specs.Prelude.{ℕ, ◌+◌, ◌≤◌}
use Rattle.records.specs.Events.{held_back}
use Rattle.rules.specs.Books.{Book, used}
use Rattle.rules.specs.Joint.{Site, running, over}

-- room is left for the last event
abbrev pub Spare : ℕ → Book → Type 0
Spare R b = used b + held_back ≤ R

-- a site that runs has left what is held back for its last event
abbrev pub Fits : ℕ → Site → Type 0
Fits R (running c b) = Spare R b
Fits R (over finished b) = used b ≤ R
