-- Steps one after the other as long as control just moves, by whoever's turn it is: in the joint run the turn list says whose, and each site keeps where
-- it is in its own row; the single run is one row, and where it is stays at hand.
use Rattle.std.specs.Prelude.{◌≡◌, Bool, true, false, cond, ℕ, zero, suc, ◌+◌, ◌*◌, ◌≤◌, ◌<◌, List, Option, Some, None, length, get_or}
use Rattle.rules.specs.declared.effects.View.{View}
use Rattle.rules.specs.declared.effects.View.TheVariants.{Whole, Site}
use Rattle.area.specs.Rows.{row_size, area_of, back}
use Rattle.area.specs.declared.stand.Stand.{Stand}
use Rattle.area.specs.declared.stand.Next.TheVariants.{On, Ends, Full}
use Rattle.seats.specs.Seats.{seat_at, IsOver, Saves}
use Rattle.seats.specs.declared.Seat.{Seat}
use Rattle.seats.specs.declared.Seat.TheVariants.{Running}
use Rattle.advance.specs.Advances.{Advances}
use Rattle.advance.specs.declared.Advanced.{Advanced}
use Rattle.advance.specs.declared.Advanced.TheVariants.{Moved, Asks, Joins}
use Rattle.advance.specs.declared.strides.Did.{Did}
use Rattle.advance.specs.declared.strides.Strode.{Strode}

-- ---- whose turn it is, and where

-- the row whose turn the j-th is
abbrev pub whose : (joint : Bool) → List ℕ → ℕ → ℕ
whose joint ts j = cond joint (get_or ts j 0) 0

abbrev pub view_of : (joint : Bool) → ℕ → View
view_of joint P = cond joint (Site (record { index = P })) Whole

-- each row whose turn it can be is there
abbrev pub RowsFit : (joint : Bool) → List ℕ → ℕ → Type 0
RowsFit joint ts long = (j : ℕ) → (joint ≡ true → j < length ts) → whose joint ts j * row_size + row_size ≤ long

-- where control stands: a site keeps it in its row w; the single run has it at hand
abbrev pub seat_of : (joint : Bool) → Stand → List ℕ → Seat
seat_of joint t w = cond joint (seat_at w) (Running t)

pub record Keeps (joint : Bool) (t : Stand) (w w' : List ℕ) : Type 0 where
  pub saves : joint ≡ true → Saves (Running t) w w'
  pub same : joint ≡ false → w' ≡ w

-- ---- a turn

-- where a step leads that another one may follow
abbrev pub onward : Advanced → Option Stand
onward (Moved (On t)) = Some t
onward (Moved (Ends v)) = None
onward (Moved Full) = None
onward (Asks effect) = None
onward Joins = None

abbrev pub leads : Option Did → Option Stand
leads (Some did) = onward did.came
leads None = None

-- where a step led on is kept
abbrev pub Kept : (joint : Bool) → Option Stand → (w w' : List ℕ) → Type 0
Kept joint (Some u) w w' = Keeps joint u w w'
Kept joint None w w' = w' ≡ w

-- a step in the row w of P, from where control stood
pub record StepsInRow (joint : Bool) (P : ℕ) (bs : List ℕ) (nodes : ℕ) (t : Stand) (did : Did) (w w' : List ℕ) : Type 0 where
  pub sits : Running did.stand ≡ seat_of joint t w
  pub between : List ℕ
  pub advances : Advances (view_of joint P) bs nodes did.stand did.came w between
  pub keeps : Kept joint (onward did.came) between w'

-- a turn in the row w of P: a step, or the site is over
abbrev pub InRow : (joint : Bool) (P : ℕ) (bs : List ℕ) (nodes : ℕ) (t : Stand) → Option Did → (w w' : List ℕ) → Type 0
InRow joint P bs nodes t (Some did) w w' = StepsInRow joint P bs nodes t did w w'
InRow joint P bs nodes t None w w' = IsOver (seat_of joint t w) × (w' ≡ w)

-- one that led on to u
pub record LeadsOn (joint : Bool) (P : ℕ) (bs : List ℕ) (nodes : ℕ) (t u : Stand) (w w' : List ℕ) : Type 0 where
  pub stand : Stand
  pub sits : Running stand ≡ seat_of joint t w
  pub between : List ℕ
  pub advances : Advances (view_of joint P) bs nodes stand (Moved (On u)) w between
  pub keeps : Keeps joint u between w'

-- ---- turns one after the other

-- a turn among the rows, the row of P being all that it changes
abbrev pub AmongRows : (P : ℕ) → (List ℕ → List ℕ → Type 0) → (w w' : List ℕ) → Type 0
AmongRows P turn w w' = (ys : List ℕ) × turn (area_of P w) ys × (length ys ≡ row_size) × (w' ≡ back row_size P w ys)

-- so many turns from the first on that led on, from the stand t over the rows w to u over v
unfoldable pub Led : (joint : Bool) (ts bs : List ℕ) (nodes first k : ℕ) (t : Stand) (w : List ℕ) (u : Stand) (v : List ℕ) → Type 0
Led joint ts bs nodes first zero t w u v = (t ≡ u) × (w ≡ v)
Led joint ts bs nodes first (suc k) t w u v =
    (s : Stand) × (x : List ℕ) × Led joint ts bs nodes first k t w s x × AmongRows (whose joint ts (first + k)) (LeadsOn joint (whose joint ts (first + k)) bs nodes s u) x v

-- fewer than `most` turns that led on, and the one after them
abbrev pub StridesTo : (joint : Bool) (ts bs : List ℕ) (nodes first : ℕ) → Stand → (most : ℕ) → Strode → (w w' : List ℕ) → Type 0
StridesTo joint ts bs nodes first start most r w w' =
    (r.moves < most) × (t : Stand) × (v : List ℕ) × Led joint ts bs nodes first r.moves start w t v
    × AmongRows (whose joint ts (first + r.moves)) (InRow joint (whose joint ts (first + r.moves)) bs nodes t r.came) v w'
