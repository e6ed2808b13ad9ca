-- The check of the turn list, the sites at the start, and whether all have finished, in the rules' terms.
use Rattle.std.specs.Prelude.{◌≡◌, ℕ, ◌<◌, Bool, true, false, List, [], Option, Some, None}
use Rattle.std.proofs.Math.Option.{Option as Option', none, some}
use Rattle.rules.specs.Books.{Book}
use Rattle.rules.specs.Names.{none_bound}
use Rattle.rules.specs.Joint.{Sites, running, book_of, all_finished}
use Rattle.table.specs.Table.{PlacesIn}
use Rattle.seats.specs.Seats.{seat_at, site_of}
use Rattle.area.specs.declared.stand.Stand.{Stand}
use Rattle.seats.specs.declared.Seat.{Seat}
use Rattle.seats.specs.declared.Seat.TheVariants.{Running, Finished, Stopped}
use Rattle.area.specs.Rows.{area_of}

-- what the code's answer says
abbrev pub found : Option ℕ → Option' ℕ
found None = none
found (Some index) = some index

-- the site of an area has finished
abbrev pub finished_seat : Seat → Bool
finished_seat (Running t) = false
finished_seat Finished = true
finished_seat Stopped = false

abbrev pub finished_at : List ℕ → Bool
finished_at w = finished_seat (seat_at w)

-- a site's own area at the start: its table of places, and a site that stands at t with no name bound and no frame down
pub record OpensOne (bs : List ℕ) (nodes : ℕ) (t : Stand) (w : List ℕ) : Type 0 where
  pub places : PlacesIn bs nodes w
  pub site : t.depth.frames ≡ 0 → (b : Book) → running (record { node = t.node; mode = t.mode; names = none_bound; frames = [] }) b ≡ site_of w b

-- the areas of n sites, each as the first one was
pub record AllFirst (n : ℕ) (w w' : List ℕ) : Type 0 where
  pub each : (P : ℕ) → P < n → area_of P w' ≡ area_of 0 w

-- the areas of n sites
pub record OpensAll (bs : List ℕ) (nodes : ℕ) (t : Stand) (n : ℕ) (w : List ℕ) : Type 0 where
  pub each : (P : ℕ) → P < n → OpensOne bs nodes t (area_of P w)

-- all of the sites below n that the working area holds have finished
pub record Finishes (n : ℕ) (r : Bool) (w : List ℕ) : Type 0 where
  pub comes : (J : Sites) → ((P : ℕ) → P < n → J P ≡ site_of (area_of P w) (book_of (J P))) → r ≡ all_finished n J
