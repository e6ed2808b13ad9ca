-- A step only adds to a site's record. Assumes nothing.
use Prim.Native.Nat.{ℕ}
use mathlib.Core.Bool.{Bool, true, false, cond}
use mathlib.Core.List.{List, [], ◌∷◌}
use mathlib.Core.Option.{Option, none, some}
use lib.IntN.{ℤ, pos}
use Rattle.refusals.specs.Numbers.{number_of, no_input, no_room, too_deep}
use Rattle.records.specs.declared.events.Event.{Event}
use Rattle.rules.specs.Moves.{Control, Next, on, ends, full, move}
use Rattle.rules.specs.Books.{Book, event_of, room_for, add, note}
use Rattle.rules.specs.Single.{Setting}
use Rattle.rules.specs.Joint.{stop, land, settle, read_own, Own, acts, attends, perform_own, own}
use Rattle.rules.specs.declared.effects.Move.{Move}
use Rattle.rules.specs.declared.effects.Effect.{Effect}
use Rattle.rules.specs.declared.effects.Effect.TheVariants.{Refuse, Goes, Reads, Writes, Meets}
use Rattle.invariants.specs.Begins.{Begins}
use Rattle.invariants.specs.Sites.{events_of}
use Rattle.invariants.proofs.BeginsLaws.{begins_refl, begins_add, begins_trans}

pub stop_adds : (refusal e : ℕ) (b : Book) → Begins b.events (events_of (stop refusal e b))
unfolding add
stop_adds refusal e b = begins_add b.events _

note_adds : (P : ℕ) (o : Option Event) (b : Book) → Begins b.events (note P o b).events
unfolding note add
note_adds P none b = begins_refl b.events
note_adds P (some e) b = begins_add b.events _

pub land_adds : (e : ℕ) (nx : Next) (b : Book) → Begins b.events (events_of (land e nx b))
unfolding land add
land_adds e (on c) b = begins_refl b.events
land_adds e (ends v) b = begins_add b.events _
land_adds e full b = stop_adds too_deep e b

-- what a site does by itself adds to the record of its book
abbrev pub own_adds : Book → Own → Type 0
own_adds b (acts s) = Begins b.events (events_of s)
own_adds b (attends mt o) = Unit {0}

module _ (S : Setting) (P : ℕ) (c : Control) (b : Book) where
  pub settle_adds : (o : Option Event) (mv : Move) → Begins b.events (events_of (settle S P c b o mv))
  unfolding settle
  settle_adds o mv = go (room_for S.room P o b)
    where
      go : (t : Bool) → Begins b.events (events_of (cond t (land c.node (move mv c) (note P o b)) (stop no_room c.node b)))
      go true = begins_trans (note_adds P o b) (land_adds c.node (move mv c) (note P o b))
      go false = stop_adds no_room c.node b

  -- whatever its rule asks for
  pub perform_adds : (e : Effect) → own_adds b (perform_own S P c b e)
  unfolding perform_own read_own
  perform_adds (Refuse refusal) = stop_adds (number_of refusal) c.node b
  perform_adds (Goes mv) = settle_adds none mv
  perform_adds Reads = go b.inputs
    where
      go : (is : List ℤ) → Begins b.events (events_of (read_own S P c b is))
      go [] = stop_adds no_input c.node b
      go (i ∷ is) = settle_adds _ _
  perform_adds (Writes i) = settle_adds _ _
  perform_adds (Meets mt o) = go (room_for S.room P (some (event_of mt (pos 0))) b)
    where
      go : (t : Bool) → own_adds b (cond t (attends mt o) (acts (stop no_room c.node b)))
      go true = tt
      go false = stop_adds no_room c.node b

  pub own_adds_lem : own_adds b (own S P c b)
  unfolding own
  own_adds_lem = perform_adds _
