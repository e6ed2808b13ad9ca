-- All sites, side by side in what was lent: site P's record and area are the P-th of their rows.
use Rattle.std.specs.Prelude.{◌≡◌, ℕ, ◌-◌, ◌*◌, ◌≤◌, ◌<◌, List, ℤ, length, get_or, take, drop}
use Rattle.program.specs.Check.{Program, good, checked}
use Rattle.rules.specs.Books.{used}
use Rattle.area.specs.Rows.{area_of}
use Rattle.rules.specs.Single.{Setting}
use Rattle.rules.specs.Joint.{Site, Sites, running, over, book_of}
use Rattle.invariants.specs.Room.{Fits}
use Rattle.ledger.specs.Ledger.{Holds}
use Rattle.table.specs.Table.{PlacesIn}
use Rattle.seats.specs.Seats.{site_of}

abbrev pub setting_of : Program → ℕ → Setting
setting_of p room = record { program = p; room = room }

-- site P is what its area and the length of its record say
pub record Sits (P : ℕ) (s : Site) (lengths work : List ℕ) : Type 0 where
  pub site : s ≡ site_of (area_of P work) (book_of s)
  pub count : used (book_of s) ≡ get_or lengths P 0

-- what a run does not change: the program, and what the records and the lengths held when they were lent
pub record Given (bs : List ℕ) (nodes room n : ℕ) : Type 0 where
  pub program : Program
  pub sound : checked bs ≡ good program
  pub parties : program.parties ≡ n
  pub count : length program.nodes ≡ nodes
  pub few : nodes ≤ 1024
  pub bytes₀ : List ℕ
  pub lengths₀ : List ℕ
  pub long : n * room ≤ length bytes₀
  pub places : n ≤ length lengths₀

-- the records, the lengths and the working area hold the n sites J
pub record Stands {bs : List ℕ} {nodes room n : ℕ} (G : Given bs nodes room n) (J : Sites) (bytes lengths work : List ℕ) : Type 0 where
  pub holds : Holds room n (λ P. book_of (J P)) G.bytes₀ G.lengths₀ bytes lengths
  pub sits : (P : ℕ) → P < n → J P ≡ site_of (area_of P work) (book_of (J P))
  pub tables : (P : ℕ) → P < n → PlacesIn bs nodes (area_of P work)
  pub fits : (P : ℕ) → P < n → Fits room (J P)

-- a site that runs has its inputs to come from `at` on, up to `end`
abbrev pub InputsOf : (is : List ℤ) (end at : List ℕ) → ℕ → Site → Type 0
InputsOf is end at P (running c b) = b.inputs ≡ take (get_or end P 0 - get_or at P 0) (drop (get_or at P 0) is)
InputsOf is end at P (over finished b) = Unit {0}

abbrev pub InputsStand : (is : List ℤ) (end : List ℕ) (n : ℕ) (at : List ℕ) → Sites → Type 0
InputsStand is end n at J = (P : ℕ) → P < n → InputsOf is end at P (J P)
