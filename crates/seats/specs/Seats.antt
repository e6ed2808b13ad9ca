-- Where a site is between its turns, as its area keeps it: how it is with it, and if it runs its node, its mode and how many frames are down.
use Rattle.std.specs.Prelude.{◌≡◌, ℕ, ◌+◌, true, false, cond, List, eqb, get_or, take, Option, Some, None}
use Rattle.words.specs.Words.{number_at}
use Rattle.limits.specs.Limits.{max_frames}
use Rattle.limits.specs.Depths.{depth_of}
use Rattle.parties.specs.SetBytes.{set_at}
use Rattle.limits.specs.declared.Depth.{Depth}
use Rattle.rules.specs.Books.{Book}
use Rattle.rules.specs.Joint.{Site, running, over}
use Rattle.area.specs.Levels.{table_size, level_at, control_of}
use Rattle.area.specs.declared.stand.Stand.{Stand}
use Rattle.seats.specs.declared.Seat.{Seat}
use Rattle.seats.specs.declared.Seat.TheVariants.{Running, Finished, Stopped}

-- behind the last level
abbrev pub seat_place : ℕ
seat_place = level_at (max_frames + 1)

abbrev pub running_at : List ℕ → Option Depth → Seat
running_at w (Some d) = Running (record { node = number_at 2 w (seat_place + 1); mode = set_at w (seat_place + 3); depth = d })
running_at w None = Stopped

-- every byte string is some seat
unfoldable pub seat_at : List ℕ → Seat
seat_at w =
    cond (eqb (get_or w seat_place 0) 1) Finished
    (cond (eqb (get_or w seat_place 0) 2) (running_at w (depth_of (get_or w (seat_place + 5) 0))) Stopped)

-- the site that a seat, its area and its book are
abbrev pub seated : Seat → List ℕ → Book → Site
seated (Running t) w b = running (control_of t w) b
seated Finished w b = over true b
seated Stopped w b = over false b

unfoldable pub site_of : List ℕ → Book → Site
site_of w b = seated (seat_at w) w b

-- the site finished or stopped
abbrev pub IsOver : Seat → Type 0
IsOver (Running t) = ⊥
IsOver Finished = Unit {0}
IsOver Stopped = Unit {0}

-- a seat is kept in the bytes w, which leaves w': the levels and the table of places stay
pub record Saves (s : Seat) (w w' : List ℕ) : Type 0 where
  pub seat : seat_at w' ≡ s
  pub levels : (t : Stand) → control_of t w' ≡ control_of t w
  pub table : take table_size w' ≡ take table_size w
