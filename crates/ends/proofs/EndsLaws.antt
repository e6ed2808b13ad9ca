-- The turn list from an index on; a site's area at the start, and all of them; and when all sites have finished. Assumes nothing.
use mathlib.Core.Path.{◌≡◌, refl, sym, ap, ◌∙◌}
use mathlib.Core.Bool.{Bool, true, false, not, and-false}
use mathlib.Core.List.{List}
use mathlib.Core.Option.{none, some}
use Prim.Native.Nat.{ℕ, zero, suc, ◌+◌, ◌-◌, ◌*◌, ◌≤◌, ◌<◌}
use native.Mathlib.Decide.{dec_lt, ℕ_discrete}
use native.Mathlib.Numerals.{add-one}
use native.Mathlib.Omega.{arith}
use borrow.Author.Tests.{lt-ltb, le-ltb, not-true, not-false}
use lib.ListN.{length, get_or, drop, drop_of_length-le}
use lib.Seq.{drop-cons}
use Rattle.stretches.specs.Stretches.{copied}
use Rattle.rules.specs.Books.{Book}
use Rattle.rules.specs.Calls.{max_turns, bad_turn_from}
use Rattle.rules.specs.Joint.{Site, Sites, running, is_finished, all_finished, book_of}
use Rattle.area.specs.Rows.{row_size, area_of, back}
use Rattle.rules.specs.Moves.{Control}
use Rattle.seats.specs.Seats.{seat_at, seated, site_of, Saves}
use Rattle.table.specs.Table.{Prepared}
use Rattle.area.specs.declared.stand.Stand.{Stand}
use Rattle.seats.specs.declared.Seat.{Seat}
use Rattle.seats.specs.declared.Seat.TheVariants.{Running, Finished, Stopped}
use Rattle.area.proofs.LevelLaws.{fresh}
use Rattle.area.proofs.MoveLaws.{part_back}
use Rattle.table.proofs.TableLaws.{places_kept}
use Rattle.area.proofs.RowLaws.{row_length}
use Rattle.concludes.proofs.RowLaws.{row_own, row_other}
use Rattle.ends.specs.Ends.{finished_seat, finished_at, AllFirst, OpensOne, OpensAll, Finishes}

-- ---- the turn list from an index on
module _ (n : ℕ) (ts : List ℕ) (i : ℕ) where
  pub turns_over : length ts ≤ i → bad_turn_from n i (drop i ts) ≡ none
  unfolding bad_turn_from
  turns_over h = rw (drop_of_length-le ts h)

  pub turn_strange : i < length ts → n ≤ get_or ts i 0 → bad_turn_from n i (drop i ts) ≡ some i
  unfolding bad_turn_from
  turn_strange h q = rw (drop-cons ts i 0 h, le-ltb (get_or ts i 0) n q)

  pub turn_late : i < length ts → max_turns ≤ i → bad_turn_from n i (drop i ts) ≡ some i
  unfolding bad_turn_from
  turn_late h q = rw (drop-cons ts i 0 h, le-ltb i max_turns q, and-false)

  pub turn_good : i < length ts → get_or ts i 0 < n → i < max_turns → bad_turn_from n i (drop i ts) ≡ bad_turn_from n (i + 1) (drop (i + 1) ts)
  unfolding bad_turn_from
  turn_good h q l = rw (drop-cons ts i 0 h, lt-ltb (get_or ts i 0) n q, lt-ltb i max_turns l, add-one i)

-- ---- a site's own area at the start
pub opens : (bs : List ℕ) (nodes : ℕ) (t : Stand) (w w' : List ℕ) → nodes ≤ 1024 → Prepared bs nodes w → Saves (Running t) w w' → OpensOne bs nodes t w'
unfolding site_of
opens bs nodes t w w' few p s =
    record {
      places = places_kept bs nodes w w' few s.table p.places;
      site = λ e b. rw (s.seat, s.levels t) (ap (λ (c : Control). running c b) (sym (fresh t w e p.fresh)));
    }

-- ---- the areas of all sites at the start
module _ (w : List ℕ) where
  pub first_one : AllFirst 1 w w
  first_one =
      record {
        each = λ P h.
            let e : P ≡ 0 = omega arith in
            ap (λ (k : ℕ). area_of k w) e;
      }

  pub first_all : (k n : ℕ) (w' : List ℕ) → n ≤ k → AllFirst k w w' → AllFirst n w w'
  first_all k n w' h a = record { each = λ P l. a.each P (omega arith) }

  -- the first is copied to the place of the next
  module _ (k : ℕ) (w' : List ℕ) (first : 0 < k) (long : k * row_size + row_size ≤ length w') where
    copied_back : copied w' 0 (k * row_size) row_size ≡ back row_size k w' (area_of 0 w')
    unfolding copied
    copied_back = sym (part_back (k * row_size) (k * row_size + row_size - k * row_size) w' (area_of 0 w') (row_length row_size 0 w' (omega arith) ∙ omega arith) (omega arith))

    pub first_more : AllFirst k w w' → AllFirst (k + 1) w (copied w' 0 (k * row_size) row_size)
    first_more a =
        let one : length (area_of 0 w') ≡ row_size = row_length row_size 0 w' (omega arith) in
        record {
          each = λ P h.
              rw copied_back
              (elim (ℕ_discrete P k) [
                | yes e ↦ rw (e, row_own row_size k w' (area_of 0 w') one long) (a.each 0 first)
                | no d ↦ rw (row_other row_size k w' (area_of 0 w') one long P d) (a.each P (omega arith))
              ]);
        }

module _ (bs : List ℕ) (nodes : ℕ) (t : Stand) where
  pub opens_none : (n : ℕ) (w : List ℕ) → n ≡ 0 → OpensAll bs nodes t n w
  opens_none n w e = record { each = λ P h. absurd (omega arith) }

  -- the first was opened in its place, and the others are alike
  pub opens_all : (n : ℕ) (w ws w' : List ℕ) → length ws ≡ row_size → row_size ≤ length w → OpensOne bs nodes t ws → AllFirst n (back row_size 0 w ws) w' → OpensAll bs nodes t n w'
  opens_all n w ws w' len long one a = record { each = λ P h. rw (a.each P h, row_own row_size 0 w ws len long) one }

-- ---- whether all have finished
seat_finished : (s : Seat) (w : List ℕ) (b : Book) → is_finished (seated s w b) ≡ finished_seat s
seat_finished (Running t) w b = refl
seat_finished Finished w b = refl
seat_finished Stopped w b = refl

site_finished : (s : Site) (w : List ℕ) → s ≡ site_of w (book_of s) → is_finished s ≡ finished_at w
unfolding site_of
site_finished s w e = ap is_finished e ∙ seat_finished (seat_at w) w (book_of s)

finished_more : (J : Sites) (k : ℕ) → all_finished k J ≡ true → is_finished (J k) ≡ true → all_finished (k + 1) J ≡ true
unfolding all_finished
finished_more J k a h = rw (add-one, h, a)

pub finished_lack : (J : Sites) (n k : ℕ) → k < n → is_finished (J k) ≡ false → false ≡ all_finished n J
unfolding all_finished
finished_lack J zero k h q = absurd (let z : k < 0 = h in omega arith)
finished_lack J (suc m) k h q =
    elim (dec_lt k m) [
      | yes l ↦ rw (← finished_lack J m k l q) (sym (and-false (is_finished (J m))))
      | no l ↦
          let s : m ≡ k = omega arith in
          rw (s, q)
    ]

module _ (n : ℕ) (w : List ℕ) where
  -- all sites below k have finished
  pub record Finishing (k : ℕ) : Type 0 where
    pub all : (J : Sites) → ((P : ℕ) → P < n → J P ≡ site_of (area_of P w) (book_of (J P))) → all_finished k J ≡ true

  pub finish_none : Finishing 0
  unfolding all_finished
  finish_none = record { all = λ J sits. refl }

  pub finish_all : Finishing n → Finishes n true w
  finish_all so_far = record { comes = λ J sits. sym (so_far.all J sits) }

  module _ (k : ℕ) (inside : k < n) (r : Bool) (one : r ≡ finished_at (area_of k w)) where
    pub finish_more : Finishing k → not r ≡ false → Finishing (k + 1)
    finish_more so_far q =
        record { all = λ J sits. finished_more J k (so_far.all J sits) (site_finished (J k) (area_of k w) (sits k inside) ∙ sym one ∙ not-false r q) }

    pub finish_not : not r ≡ true → Finishes n false w
    finish_not q =
        record { comes = λ J sits. finished_lack J n k inside (site_finished (J k) (area_of k w) (sits k inside) ∙ sym one ∙ not-true r q) }
