-- What a site's act leaves of its own record, of xs with u bytes used, and of its own area w.
use Rattle.std.specs.Prelude.{◌≡◌, ℕ, ◌+◌, ◌≤◌, List, ◌++◌, ℤ, length, take, Option, Result, Ok, Err, IfOk}
use Rattle.std.proofs.Math.Option.{some}
use Rattle.std.proofs.lemmas.List.Edits.{sets}
use Rattle.limits.specs.declared.Party.{Party}
use Rattle.records.specs.Events.{written, held_back}
use Rattle.records.specs.declared.events.Event.{Event}
use Rattle.rules.specs.Books.{Book, used}
use Rattle.rules.specs.Moves.{Control}
use Rattle.rules.specs.Single.{Setting}
use Rattle.rules.specs.Joint.{Site, stop, land, settle, book_of}
use Rattle.rules.specs.declared.effects.Move.{Move}
use Rattle.rules.specs.declared.effects.Effect.{Effect}
use Rattle.invariants.specs.Room.{Fits}
use Rattle.inputs.specs.Inputs.{head_of}
use Rattle.area.specs.Levels.{table_size, control_of, next_of}
use Rattle.seats.specs.Seats.{site_of}
use Rattle.area.specs.declared.stand.Stand.{Stand}
use Rattle.area.specs.declared.stand.Next.{Next}
use Rattle.site.specs.Own.{acted, Alone}
use Rattle.site.specs.declared.own.Own.TheVariants as Own

-- from the book b the site came to s: its record grew by some bytes, and its area holds where it now is
pub record Took (b : Book) (s : Site) (u : ℕ) (xs : List ℕ) (u' : ℕ) (xs' w' : List ℕ) : Type 0 where
  pub more : List ℕ
  pub bytes : xs' ≡ sets xs u more
  pub count : u' ≡ u + length more
  pub grown : written (book_of s).events ≡ written b.events ++ more
  pub fits : Fits (length xs) s
  pub stands : s ≡ site_of w' (book_of s)

-- whatever book the record holds, the site comes to what f says of it
pub record Takes (f : Book → Site) (u : ℕ) (xs w : List ℕ) (u' : ℕ) (xs' w' : List ℕ) : Type 0 where
  pub took : (b : Book) → used b ≡ u → u + held_back ≤ length xs → Took b (f b) u xs u' xs' w'
  pub table : take table_size w' ≡ take table_size w

-- where a move has led the site
pub record Lands (next : Next) (e u : ℕ) (xs w : List ℕ) (u' : ℕ) (xs' w' : List ℕ) : Type 0 where
  pub lands : Takes (land e (next_of next w)) u xs w u' xs' w'

-- the site notes its part of an event and control moves, or it stops for want of room
pub record Settles (ev : Event) (mv : Move) (t : Stand) (P : Party) (u : ℕ) (xs w : List ℕ) (u' : ℕ) (xs' w' : List ℕ) : Type 0 where
  pub settles : (S : Setting) → S.room ≡ length xs → Takes (λ b. settle S P.index (control_of t w) b (some ev) mv) u xs w u' xs' w'
  pub table : take table_size w' ≡ take table_size w

-- the site after what it is told: the effect of its own rule, or a stop by any number
abbrev pub obeyed : Setting → ℕ → Control → Book → Result Effect ℕ → Site
obeyed S P c b (Ok effect) = acted S P c b effect
obeyed S P c b (Err number) = stop number c.node b

-- the site does what it is told, its next input being at hand
pub record Acts (told : Result Effect ℕ) (input : Option ℤ) (t : Stand) (P : Party) (u : ℕ) (xs w : List ℕ) (u' : ℕ) (xs' w' : List ℕ) : Type 0 where
  pub acts : (S : Setting) → S.room ≡ length xs → (b : Book) → used b ≡ u → u + held_back ≤ length xs → input ≡ head_of b.inputs → IfOk told (λ effect. Alone (Own.Acts effect))
      → Took b (obeyed S P.index (control_of t w) b told) u xs u' xs' w'
  pub table : take table_size w' ≡ take table_size w
