-- The sites that the lent bytes hold: what they depend on, and what one site's act on its own rows makes of them. Assumes nothing.
use mathlib.Core.Path.{◌≡◌, refl, sym, ap, ◌∙◌, subst}
use mathlib.Core.List.{List, [], ◌∷◌}
use Prim.Native.Nat.{ℕ, ◌+◌, ◌*◌, ◌≤◌, ◌<◌}
use native.Mathlib.Decide.{ℕ_discrete}
use native.Mathlib.Omega.{arith}
use denote.Enum.{Declared.tag_of}
use types.Run.{OneOf}
use lib.ListN.{length, get_or, set, take, length-append}
use Rattle.records.specs.Events.{written}
use Rattle.rules.specs.Books.{used}
use Rattle.area.specs.Rows.{row_size, row, area_of, back}
use Rattle.rules.specs.Joint.{Sites, book_of}
use Rattle.invariants.specs.Room.{Fits}
use Rattle.invariants.proofs.RoomLaws.{book_fits}
use Rattle.invariants.proofs.RowLaws.{rows}
use Rattle.invariants.proofs.LeftLaws.{length_records}
use Rattle.ledger.specs.Writes.{Writes}
use Rattle.ledger.proofs.RowLaws.{Grew, holds_same, holds_length, holds_more}
use Rattle.ledger.proofs.WriteLaws.{wrote}
use Rattle.area.specs.Levels.{table_size}
use Rattle.seats.specs.declared.Seat.{Seat}
use Rattle.seats.specs.contracts.Seat.{the_type}
use Rattle.table.proofs.TableLaws.{places_kept}
use Rattle.acts.specs.Acts.{Took}
use Rattle.meets.specs.Places.{Sits, Given, Stands}
use Rattle.area.proofs.RowLaws.{row_length}
use Rattle.concludes.proofs.RowLaws.{row_own, row_other}

-- its site runs no more
abbrev pub NotRunning : Seat → Type 0
NotRunning seat = OneOf (1 ∷ 2 ∷ []) (tag_of the_type seat)

module _ {bs : List ℕ} {nodes room n : ℕ} (G : Given bs nodes room n) (J J' : Sites) (bytes lengths work : List ℕ) (st : Stands G J bytes lengths work) where
  -- only the sites below n matter
  pub stands_same : ((Q : ℕ) → Q < n → J' Q ≡ J Q) → Stands G J' bytes lengths work
  stands_same e =
      record {
        holds = holds_same room n (λ P. book_of (J P)) (λ P. book_of (J' P)) G.bytes₀ G.lengths₀ bytes lengths st.holds (λ P h. rw (e P h));
        sits = λ P h. rw (e P h) (st.sits P h);
        tables = st.tables;
        fits = λ P h. rw (e P h) (st.fits P h);
      }

  pub stands_length : (P : ℕ) → P < n → used (book_of (J P)) ≡ get_or lengths P 0
  stands_length P h = sym (holds_length room n (λ P. book_of (J P)) (λ P. book_of (J P)) G.bytes₀ G.lengths₀ bytes lengths st.holds P h G.places)

  pub stands_sits : (P : ℕ) → P < n → Sits P (J P) lengths work
  stands_sits P h = record { site = st.sits P h; count = stands_length P h }

  pub stands_long : (P : ℕ) → P < n → P * room + room ≤ length bytes
  stands_long P h =
      let l : length bytes ≡ length G.bytes₀ = ap length st.holds.bytes ∙ length_records n room (λ P. book_of (J P)) G.bytes₀ in
      omega (arith, rows P n room h, l, G.long)

  -- ---- site P acted on its own rows
  module _ (P : ℕ) (inside : P < n) (others : (Q : ℕ) → (Q ≡ P → ⊥) → J' Q ≡ J Q) (u' : ℕ) (ys ws : List ℕ) (long : P * row_size + row_size ≤ length work) (area : length ws ≡ row_size)
      (took : Took (book_of (J P)) (J' P) (get_or lengths P 0) (row room P bytes) u' ys ws) (table : take table_size ws ≡ take table_size (area_of P work)) where
    room_is : length (row room P bytes) ≡ room
    room_is = row_length room P bytes (stands_long P inside)

    fits_own : Fits room (J' P)
    fits_own = subst (λ (R : ℕ). Fits R (J' P)) room_is took.fits

    grew : Grew P took.more (λ P. book_of (J P)) (λ P. book_of (J' P))
    grew = record { own = took.grown; others = λ Q d. rw (others Q d) }

    within : used (book_of (J P)) + length took.more ≤ room
    unfolding used
    within =
        let l : length (written (book_of (J' P)).events) ≡ length (written (book_of (J P)).events) + length took.more
        = ap length took.grown ∙ length-append (written (book_of (J P)).events) took.more in
        let f : length (written (book_of (J' P)).events) ≤ room = book_fits room (J' P) fits_own in
        omega arith

    writes : Writes room P took.more bytes lengths (back room P bytes ys) (set lengths P u')
    writes =
        wrote room P bytes lengths ys (stands_long P inside) took.more took.more u' refl took.bytes (omega (arith, within, stands_length P inside)) took.count

    area_own : area_of P (back row_size P work ws) ≡ ws
    area_own = row_own row_size P work ws area long

    area_other : (Q : ℕ) → (Q ≡ P → ⊥) → area_of Q (back row_size P work ws) ≡ area_of Q work
    area_other Q d = row_other row_size P work ws area long Q d

    pub stands_changed : Stands G J' (back room P bytes ys) (set lengths P u') (back row_size P work ws)
    stands_changed =
        record {
          holds = holds_more room n (λ P. book_of (J P)) (λ P. book_of (J' P)) G.bytes₀ G.lengths₀ bytes lengths st.holds P took.more (back room P bytes ys) (set lengths P u')
              inside G.places within grew writes;
          sits = λ Q h. elim (ℕ_discrete Q P) [
            | yes e ↦ rw (e, area_own) took.stands
            | no d ↦ rw (others Q d, area_other Q d) (st.sits Q h)
          ];
          tables = λ Q h. elim (ℕ_discrete Q P) [
            | yes e ↦ rw (e, area_own) (places_kept bs nodes (area_of P work) ws G.few table (st.tables P inside))
            | no d ↦ rw (area_other Q d) (st.tables Q h)
          ];
          fits = λ Q h. elim (ℕ_discrete Q P) [
            | yes e ↦ rw e fits_own
            | no d ↦ rw (others Q d) (st.fits Q h)
          ];
        }
