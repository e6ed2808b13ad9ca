-- What all parties together wrote: each member its event, or every party its last. Assumes nothing.
use mathlib.Core.Path.{◌≡◌, refl, sym, ap, ◌∙◌}
use mathlib.Core.Bool.{Bool, true, false}
use mathlib.Core.List.{List, [], ◌++◌, append-nil}
use mathlib.Core.Option.{some}
use Prim.Native.Nat.{ℕ, ◌+◌, ◌≤◌, ◌<◌}
use native.Mathlib.Omega.{arith}
use lib.Dec.{leb}
use lib.ListN.{length, get_or}
use borrow.Author.Tests.{leb-true, leb-false}
use Rattle.parties.specs.Sets.{member}
use Rattle.parties.specs.declared.sets.PartySet.{PartySet}
use Rattle.values.specs.Values.{slice}
use Rattle.values.specs.declared.value.Value.{Value}
use Rattle.records.specs.Events.{event_bytes, written, finished, held_back}
use Rattle.records.specs.EventLaws.{finished_length}
use Rattle.records.specs.declared.events.Event.{Event}
use Rattle.rules.specs.Books.{Books, used, event_for, room_for, add, note}
use Rattle.rules.specs.Single.{note_all}
use Rattle.invariants.proofs.BookLaws.{added}
use Rattle.invariants.proofs.RoomLaws.{fits_after, noted_spare}
use Rattle.ledger.specs.Ledger.{rooms_for, NotesAll, FinishesAll}
use Rattle.ledger.specs.Writes.{Writes, chosen, finishing}
use Rattle.ledger.proofs.RevealLaws.{WorkedOut, member_is, event_is}
use Rattle.ledger.proofs.RowLaws.{holds_same, holds_length}
use Rattle.ledger.proofs.RoomLaws.{rooms_each}
use Rattle.ledger.proofs.WriteLaws.{noting, noting_none, noting_one, untouched, finishing_none, finishing_one}
use Rattle.ledger.proofs.LedgerLaws.{Bounded, Going, go_more, partly, partly_below}

-- ---- each member its event
module _ {n : ℕ} {m : PartySet} {e : Event} {s those : PartySet} {other : Event} (w : WorkedOut n m e s those other) (R : ℕ) where
  module _ {xs ls : List ℕ} {P : ℕ} {xs' ls' : List ℕ} (h : P < n) (g : Going R n (noting s those e other) xs ls P xs' ls') where
    -- who is no member writes nothing
    pub note_out : member P s ≡ false → Going R n (noting s those e other) xs ls (P + 1) xs' ls'
    note_out i =
        let none : written (noting s those e other P (get_or ls' P 0)) ≡ [] = noting_none s those e other P (get_or ls' P 0) i in
        go_more g h (λ l. rw none (omega arith)) (untouched R P _ xs' ls' none)

    module _ (rooms : rooms_for R n m e ls ≡ true) (i : member P s ≡ true) where
      pub note_fits : get_or ls' P 0 + length (event_bytes (chosen those e other P)) ≤ R
      note_fits =
          let j : member P m ≡ true = sym (member_is w P h) ∙ i in
          rw (g.later P (omega arith), event_is w P j) (omega (arith, fits_after R (get_or ls P 0) (event_for P e) (rooms_each R n m e ls rooms P h j)))

      pub note_more : {xs'' ls'' : List ℕ} → Writes R P (event_bytes (chosen those e other P)) xs' ls' xs'' ls'' → Going R n (noting s those e other) xs ls (P + 1) xs'' ls''
      note_more t =
          let one : written (noting s those e other P (get_or ls' P 0)) ≡ event_bytes (chosen those e other P) = noting_one s those e other P (get_or ls' P 0) i in
          go_more g h (λ l. rw one note_fits) (rw one t)

  noted_bytes : (b : Books) (P : ℕ) → P < n → (t : Bool) → member P m ≡ t
      → written (note_all m (some e) b P).events ≡ written (b P).events ++ written (noting s those e other P (used (b P)))
  unfolding note_all note
  noted_bytes b P h true i = rw (i, noting_one s those e other P (used (b P)) (member_is w P h ∙ i), event_is w P i) (added (event_for P e) (b P))
  noted_bytes b P h false i = rw (i, noting_none s those e other P (used (b P)) (member_is w P h ∙ i)) (sym (append-nil (written (b P).events)))

  pub note_end : {xs ls xs' ls' : List ℕ} → Going R n (noting s those e other) xs ls n xs' ls' → NotesAll R n m e xs ls xs' ls'
  unfolding room_for
  note_end {xs} {ls} {xs'} {ls'} g =
      record {
        holds = λ b xs₀ ls₀ x l h f r. (
          holds_same R n (partly (noting s those e other) n b) (note_all m (some e) b) xs₀ ls₀ xs' ls' (g.holds b xs₀ ls₀ l h f)
              (λ P q. noted_bytes b P q (member P m) refl ∙ sym (partly_below (noting s those e other) n b P q)),
          (λ P q. noted_spare R m (some e) b P (λ i. rw (holds_length R n b b xs₀ ls₀ xs ls h P q l) at (rooms_each R n m e ls r P q i)) (f P q)),
        );
      }

-- ---- every party its last event
pub finishing_bounded : (R : ℕ) (v : Value) (P u : ℕ) → Bounded R (finishing R v) P u
finishing_bounded R v P u l = go (leb (u + held_back) R) refl
  where
    go : (t : Bool) → leb (u + held_back) R ≡ t → u + length (written (finishing R v P u)) ≤ R
    go true h =
        let k : u + held_back ≤ R = leb-true (u + held_back) R h in
        rw (finishing_one R v P u k, finished_length (slice P v)) k
    go false h = rw (finishing_none R v P u (leb-false (u + held_back) R h)) (omega arith)

pub finish_end : {R n : ℕ} {v : Value} {xs ls xs' ls' : List ℕ} → Going R n (finishing R v) xs ls n xs' ls' → FinishesAll R n v xs ls xs' ls'
finish_end {R} {n} {v} {xs} {ls} {xs'} {ls'} g =
    record {
      holds = λ b xs₀ ls₀ x l h f.
          holds_same R n (partly (finishing R v) n b) (λ P. add (finished (slice P v)) (b P)) xs₀ ls₀ xs' ls' (g.holds b xs₀ ls₀ l h f)
          (λ P q.
          added (finished (slice P v)) (b P)
          ∙ ap (λ (y : List ℕ). written (b P).events ++ y) (sym (finishing_one R v P (used (b P)) (f P q)))
          ∙ sym (partly_below (finishing R v) n b P q));
    }
