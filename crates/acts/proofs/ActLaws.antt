-- What a site's acts leave: its last event, where a move has led it, an event noted and a move. Assumes nothing.
use mathlib.Core.Path.{◌≡◌, refl, sym, ◌∙◌, subst}
use mathlib.Core.Bool.{Bool, true, false}
use mathlib.Core.List.{List, [], ◌∷◌, ◌++◌, append-nil, append_assoc}
use mathlib.Core.Option.{some}
use Prim.Native.Nat.{ℕ, ◌+◌}
use native.Mathlib.Nat.{add-zero}
use native.Mathlib.Omega.{arith}
use Rattle.std.specs.Prelude.{Option, Some, None, Result, Ok, Err}
use borrow.Author.Tests.{le-leb}
use lib.Dec.{leb}
use lib.IntN.{ℤ, pos}
use lib.ListN.{length, length-append}
use lib.Seq.{length-sets}
use Rattle.stretches.proofs.StretchLaws.{sets_append}
use Rattle.limits.specs.declared.Party.{Party}
use Rattle.values.specs.declared.value.Value.{Value}
use Rattle.values.specs.declared.value.Value.TheVariants.{Clear}
use Rattle.records.specs.Events.{event_bytes, written, finished, has_room, held_back}
use Rattle.records.specs.Append.{Appends, Closes}
use Rattle.records.specs.AppendLaws.{Took, Kept, took, kept}
use Rattle.records.specs.declared.events.Event.{Event}
use Rattle.records.specs.declared.events.Event.TheVariants as Event'
use Rattle.refusals.specs.declared.Refusal.{Refusal}
use Rattle.refusals.specs.Numbers.{number_of, no_input, no_room, too_deep}
use Rattle.rules.specs.Books.{Book, used, event_for, room_for, add, note}
use Rattle.rules.specs.Moves.{move}
use Rattle.rules.specs.Single.{Setting}
use Rattle.rules.specs.Joint.{Site, over, finish, stop, land, settle, read_own}
use Rattle.rules.specs.declared.effects.Move.{Move}
use Rattle.rules.specs.declared.effects.Move.TheVariants.{Hand}
use Rattle.rules.specs.declared.effects.Effect.{Effect}
use Rattle.rules.specs.declared.effects.Effect.TheVariants.{Refuse, Goes, Reads, Writes}
use Rattle.invariants.specs.Room.{Fits}
use Rattle.invariants.proofs.BookLaws.{added, used_added}
use Rattle.invariants.proofs.RoomLaws.{last_fits}
use Rattle.inputs.specs.Inputs.{head_of}
use Rattle.area.specs.Levels.{control_of, next_of}
use Rattle.area.specs.Levels as Levels
use Rattle.seats.specs.Seats.{seat_at, seated, site_of, Saves}
use Rattle.area.specs.declared.stand.Stand.{Stand}
use Rattle.area.specs.declared.stand.Next.{Next}
use Rattle.area.specs.declared.stand.Next.TheVariants.{On, Ends, Full}
use Rattle.seats.specs.declared.Seat.{Seat}
use Rattle.seats.specs.declared.Seat.TheVariants.{Running, Finished, Stopped}
use Rattle.acts.specs.Acts as Acts
use Rattle.acts.specs.Acts.{Takes, Lands, Settles}
use Rattle.advance.specs.Advances.{rule_at, Advances}
use Rattle.advance.specs.declared.Advanced.TheVariants.{Moved}
use Rattle.rules.specs.declared.effects.View.TheVariants as View'
use Rattle.site.specs.Own.{acted}

-- ---- the last event
module _ (e : Event) (u : ℕ) (xs : List ℕ) (u' : ℕ) (xs' w w' : List ℕ) (done : Bool) (seat : Seat) where
  pub closes : Closes e u xs u' xs' → Saves seat w w' → seat_at w' ≡ seat → ((b : Book) → seated seat w' b ≡ over done b) → Takes (λ b. over done (add e b)) u xs w u' xs' w'
  unfolding site_of
  closes c s kept is =
      record {
        took = λ b o h.
            let t : leb (u + held_back) (length xs) ≡ true = le-leb (u + held_back) (length xs) h in
            record {
              more = event_bytes e;
              bytes = rw t at c.bytes;
              count = rw t at c.answer;
              grown = added e b;
              fits = last_fits (length xs) e b (rw o h);
              stands = rw kept (sym (is (add e b)));
            };
        table = s.table;
      }

module _ (u : ℕ) (xs : List ℕ) (u' : ℕ) (xs' w w' : List ℕ) where
  pub stops : (r e : ℕ) → Saves Stopped w w' → Closes (Event'.Stopped r e) u xs u' xs' → Takes (stop r e) u xs w u' xs' w'
  stops r e s c = closes (Event'.Stopped r e) u xs u' xs' w w' false Stopped c s s.seat (λ b. refl)

  pub finishes : (v : Value) (E : Event) → E ≡ finished v → Saves Finished w w' → Closes E u xs u' xs' → Takes (finish v) u xs w u' xs' w'
  finishes v E q s c =
      subst (λ (x : Event). Takes (λ b. over true (add x b)) u xs w u' xs' w') q (closes E u xs u' xs' w w' true Finished c s s.seat (λ b. refl))

-- ---- where a move has led
module _ (e u : ℕ) (xs w : List ℕ) where
  pub lands_on : (next : Next) (t : Stand) (w' : List ℕ) → next ≡ On t → Saves (Running t) w w' → Lands next e u xs w u xs w'
  unfolding land next_of site_of
  lands_on next t w' q s =
      rw q
      record {
        lands = record {
          took = λ b o h. record {
            more = [];
            bytes = refl;
            count = sym (add-zero u);
            grown = sym (append-nil (written b.events));
            fits = rw o h;
            stands = rw (s.seat, s.levels t);
          };
          table = s.table;
        };
      }

  pub lands_end : (next : Next) (v : Value) (u' : ℕ) (xs' w' : List ℕ) → next ≡ Ends v → Takes (finish v) u xs w u' xs' w' → Lands next e u xs w u' xs' w'
  unfolding land next_of
  lands_end next v u' xs' w' q t = rw q (record { lands = t })

  pub lands_full : (next : Next) (u' : ℕ) (xs' w' : List ℕ) → next ≡ Full → Takes (stop too_deep e) u xs w u' xs' w' → Lands next e u xs w u' xs' w'
  unfolding land next_of
  lands_full next u' xs' w' q t = rw q (record { lands = t })

-- a move, and where it led
pub moves : (mv : Move) (t : Stand) (u : ℕ) (xs w w1 : List ℕ) (next : Next) (u' : ℕ) (xs' w' : List ℕ)
    → Levels.Goes next (move mv (control_of t w)) w w1 → Lands next t.node u xs w1 u' xs' w' → Takes (land t.node (move mv (control_of t w))) u xs w u' xs' w'
moves mv t u xs w w1 next u' xs' w' g l =
    let s : Takes (land t.node (next_of next w1)) u xs w1 u' xs' w' = l.lands in
    rw (← g.gives) (record { took = s.took; table = s.table ∙ g.table })

-- a step by which control just moved, and where it led
pub step_lands : (bs : List ℕ) (nodes : ℕ) (t : Stand) (P : Party) (u : ℕ) (xs w w1 : List ℕ) (next : Next) (u' : ℕ) (xs' w' : List ℕ)
    → Advances (View'.Site P) bs nodes t (Moved next) w w1 → Lands next t.node u xs w1 u' xs' w'
    → (mv : Move) × (Goes mv ≡ rule_at (View'.Site P) bs nodes t w) × Takes (land t.node (move mv (control_of t w))) u xs w u' xs' w'
step_lands bs nodes t P u xs w w1 next u' xs' w' a l =
    let m = a.moved next refl in
    (m.0, m.1, moves m.0 t u xs w w1 next u' xs' w' m.2 l)

-- ---- an event noted, and a move
-- what an event and an act after it leave
then_took : (e : Event) (b : Book) (s : Site) (u next : ℕ) (xs xs1 : List ℕ) (u' : ℕ) (xs' w' : List ℕ) → Took e u xs next xs1 → Acts.Took (add e b) s next xs1 u' xs' w'
    → Acts.Took b s u xs u' xs' w'
then_took e b s u next xs xs1 u' xs' w' k n =
    let len : length xs1 ≡ length xs = rw k.bytes (length-sets xs u (event_bytes e)) in
    record {
      more = event_bytes e ++ n.more;
      bytes = n.bytes ∙ rw (k.bytes, k.to) (sets_append (event_bytes e) n.more xs u);
      count = rw (n.count, k.to, length-append) (omega arith);
      grown = n.grown ∙ rw (added e b) (append_assoc (written b.events) (event_bytes e) n.more);
      fits = subst (λ (R : ℕ). Fits R s) len n.fits;
      stands = n.stands;
    }

module _ (ev : Event) (mv : Move) (t : Stand) (P : ℕ) (u : ℕ) (xs w : List ℕ) (S : Setting) (R : S.room ≡ length xs) (E : Event) (q : E ≡ event_for P ev) where
  -- the event has room
  pub notes : (next : ℕ) (xs1 : List ℕ) (u' : ℕ) (xs' w' : List ℕ) → Appends E u xs (Some next) xs1
      → Takes (land t.node (move mv (control_of t w))) next xs1 w u' xs' w' → Takes (λ b. settle S P (control_of t w) b (some ev) mv) u xs w u' xs' w'
  unfolding settle room_for note control_of
  notes next xs1 u' xs' w' a m =
      record {
        took = λ b o h.
            let k : Took E u xs next xs1 = took E u xs xs1 next a in
            let room : has_room S.room (used b) (event_for P ev) ≡ true = rw (R, o, ← q) k.had in
            let len : length xs1 ≡ length xs = rw k.bytes (length-sets xs u (event_bytes E)) in
            let grew : used (add E b) ≡ next = used_added E b ∙ rw o (sym k.to) in
            rw (room, ← q) (then_took E b (land t.node (move mv (control_of t w)) (add E b)) u next xs xs1 u' xs' w' k (m.took (add E b) grew (rw len k.left)));
        table = m.table;
      }

  -- it has none
  pub lacks : (u' : ℕ) (xs1 xs' w' : List ℕ) → Appends E u xs None xs1 → Takes (stop no_room t.node) u xs1 w u' xs' w'
      → Takes (λ b. settle S P (control_of t w) b (some ev) mv) u xs w u' xs' w'
  unfolding settle room_for control_of
  lacks u' xs1 xs' w' a m =
      let k : Kept E u xs xs1 = kept E u xs xs1 a in
      let s : Takes (stop no_room t.node) u xs w u' xs' w' = rw k.bytes at m in
      record {
        took = λ b o h.
            let room : has_room S.room (used b) (event_for P ev) ≡ false = rw (R, o, ← q) k.had in
            rw room (s.took b o h);
        table = m.table;
      }

-- ---- what a site is told, done by itself
module _ (input : Option ℤ) (t : Stand) (P : Party) (u : ℕ) (xs w : List ℕ) (u' : ℕ) (xs' w' : List ℕ) where
  pub acts_stop : (told : Result Effect ℕ) (number : ℕ) → told ≡ Err number → Takes (stop number t.node) u xs w u' xs' w' → Acts.Acts told input t P u xs w u' xs' w'
  unfolding control_of
  acts_stop told number q s = rw q (record { acts = λ S R b o h i n. s.took b o h; table = s.table })

  pub acts_refuse : (effect : Effect) (r : Refusal) → effect ≡ Refuse r → Takes (stop (number_of r) t.node) u xs w u' xs' w' → Acts.Acts (Ok effect) input t P u xs w u' xs' w'
  unfolding acted control_of
  acts_refuse effect r q s = rw q (record { acts = λ S R b o h i n. s.took b o h; table = s.table })

  pub acts_goes : (effect : Effect) (mv : Move) → effect ≡ Goes mv → Takes (land t.node (move mv (control_of t w))) u xs w u' xs' w'
      → Acts.Acts (Ok effect) input t P u xs w u' xs' w'
  unfolding acted settle room_for note control_of
  acts_goes effect mv q s = rw q (record { acts = λ S R b o h i n. s.took b o h; table = s.table })

  pub acts_writes : (effect : Effect) (i : ℤ) → effect ≡ Writes i → Settles (Event'.Wrote i) (Hand (Clear (pos 0) t.mode)) t P u xs w u' xs' w'
      → Acts.Acts (Ok effect) input t P u xs w u' xs' w'
  unfolding acted control_of
  acts_writes effect i q s = rw q (record { acts = λ S R b o h j n. (s.settles S R).took b o h; table = s.table })

  pub acts_unread : (effect : Effect) → effect ≡ Reads → input ≡ None → Takes (stop no_input t.node) u xs w u' xs' w' → Acts.Acts (Ok effect) input t P u xs w u' xs' w'
  unfolding acted control_of read_own
  acts_unread effect q e s =
      rw q (record { acts = λ S R b o h j n. go S b b.inputs (sym e ∙ j) (s.took b o h); table = s.table })
    where
      go : (S : Setting) (b : Book) (is : List ℤ) → None ≡ head_of is → Acts.Took b (stop no_input t.node b) u xs u' xs' w'
          → Acts.Took b (read_own S P.index (control_of t w) b is) u xs u' xs' w'
      go S b [] h k = k
      go S b (i ∷ is) h k = absurd (let z : ◌≡◌ {A = ℕ} 0 1 = cc in omega arith)

  pub acts_reads : (effect : Effect) (i : ℤ) → effect ≡ Reads → input ≡ Some i → Settles (Event'.Read i) (Hand (Clear i t.mode)) t P u xs w u' xs' w'
      → Acts.Acts (Ok effect) input t P u xs w u' xs' w'
  unfolding acted control_of read_own
  acts_reads effect i q e s =
      rw q (record { acts = λ S R b o h j n. go S b b.inputs (sym e ∙ j) ((s.settles S R).took b o h); table = s.table })
    where
      go : (S : Setting) (b : Book) (is : List ℤ) → Some i ≡ head_of is → Acts.Took b (settle S P.index (control_of t w) b (some (Event'.Read i)) (Hand (Clear i t.mode))) u xs u' xs' w'
          → Acts.Took b (read_own S P.index (control_of t w) b is) u xs u' xs' w'
      go S b [] h k = absurd (let z : ◌≡◌ {A = ℕ} 0 1 = cc in omega arith)
      go S b (j ∷ is) h k = let same : i ≡ j = cc in rw (← same) k
