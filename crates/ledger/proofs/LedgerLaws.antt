-- All parties write, one after the other: the books after some of them, and what the lent bytes then hold. Assumes nothing.
use mathlib.Core.Path.{◌≡◌, refl, sym, ap, ◌∙◌}
use mathlib.Core.Bool.{Bool, true, false, cond}
use mathlib.Core.List.{List, [], ◌++◌, append-nil}
use Prim.Native.Nat.{ℕ, ◌+◌, ◌*◌, ◌≤◌, ◌<◌}
use native.Mathlib.Omega.{arith}
use lib.Dec.{ltb}
use lib.ListN.{length, get_or, length-set}
use lib.Seq.{length-sets, get_or-set_other}
use borrow.Author.Tests.{ltb-true, ltb-false, lt-ltb, le-ltb}
use Rattle.records.specs.Events.{written}
use Rattle.records.specs.EventLaws.{written_append}
use Rattle.records.specs.declared.events.Event.{Event}
use Rattle.rules.specs.Books.{Book, Books, used}
use Rattle.invariants.proofs.RowLaws.{rows}
use Rattle.ledger.specs.Ledger.{Holds, Fits}
use Rattle.ledger.specs.Writes.{Writes}
use Rattle.ledger.proofs.RowLaws.{Grew, holds_same, holds_length, holds_more}

-- the events that a party writes, by its number and the bytes that it has used
abbrev pub Writer : Type 0
Writer = (P u : ℕ) → List Event

-- party P, which has used u bytes, does not leave its room
abbrev pub Bounded : ℕ → Writer → (P u : ℕ) → Type 0
Bounded R w P u = u ≤ R → u + length (written (w P u)) ≤ R

-- the books in which the parties below k have written
unfoldable pub partly : Writer → ℕ → Books → Books
partly w k b P = record { inputs = (b P).inputs; events = (b P).events ++ cond (ltb P k) (w P (used (b P))) [] }

module _ (w : Writer) (k : ℕ) (b : Books) (P : ℕ) where
  pub partly_below : P < k → written (partly w k b P).events ≡ written (b P).events ++ written (w P (used (b P)))
  unfolding partly
  partly_below h = rw (lt-ltb P k h) (written_append (b P).events (w P (used (b P))))

  partly_above : k ≤ P → written (partly w k b P).events ≡ written (b P).events
  unfolding partly
  partly_above h = rw (le-ltb P k h) (ap written (append-nil (b P).events))

-- party k writes
partly_more : (w : Writer) (k : ℕ) (b : Books) → Grew k (written (w k (used (b k)))) (partly w k b) (partly w (k + 1) b)
partly_more w k b =
    record {
      own = partly_below w (k + 1) b k (omega arith) ∙ ap (λ (l : List ℕ). l ++ written (w k (used (b k)))) (sym (partly_above w k b k (omega arith)));
      others = λ Q d. go Q d (ltb Q k) refl;
    }
  where
    go : (Q : ℕ) → (Q ≡ k → ⊥) → (t : Bool) → ltb Q k ≡ t → written (partly w (k + 1) b Q).events ≡ written (partly w k b Q).events
    go Q d true e = let h : Q < k = ltb-true Q k e in partly_below w (k + 1) b Q (omega arith) ∙ sym (partly_below w k b Q h)
    go Q d false e = let h : k < Q = omega (arith, ltb-false Q k e) in partly_above w (k + 1) b Q (omega arith) ∙ sym (partly_above w k b Q (omega arith))

used_is : (b b' : Book) → written b.events ≡ written b'.events → used b ≡ used b'
unfolding used
used_is b b' e = rw e

-- from the bytes xs and lengths ls on, the parties below k of n have written
pub record Going (R n : ℕ) (w : Writer) (xs ls : List ℕ) (k : ℕ) (xs' ls' : List ℕ) : Type 0 where
  pub within : k ≤ n
  pub long : length xs' ≡ length xs
  pub places : length ls' ≡ length ls
  pub later : (P : ℕ) → k ≤ P → get_or ls' P 0 ≡ get_or ls P 0
  pub holds : (b : Books) (xs₀ ls₀ : List ℕ) → n ≤ length ls₀ → Holds R n b xs₀ ls₀ xs ls → Fits R n b → Holds R n (partly w k b) xs₀ ls₀ xs' ls'

pub go_none : {R n : ℕ} {w : Writer} {xs ls : List ℕ} → Going R n w xs ls 0 xs ls
go_none {R} {n} {w} {xs} {ls} =
    record {
      within = omega arith;
      long = refl;
      places = refl;
      later = λ P h. refl;
      holds = λ b xs₀ ls₀ l h f. holds_same R n b (partly w 0 b) xs₀ ls₀ xs ls h (λ P q. partly_above w 0 b P (omega arith));
    }

module _ {R n : ℕ} {w : Writer} {xs ls : List ℕ} {k : ℕ} {xs' ls' : List ℕ} (g : Going R n w xs ls k xs' ls') where
  -- party k's record and length are there to be written
  pub go_fits : k < n → n * R ≤ length xs → n ≤ length ls → (k * R + R ≤ length xs') × (k < length ls')
  go_fits q x l = (omega (arith, rows k n R q, g.long), omega (arith, g.places))

  pub go_more : {xs'' ls'' : List ℕ} → k < n → Bounded R w k (get_or ls' k 0) → Writes R k (written (w k (get_or ls' k 0))) xs' ls' xs'' ls'' → Going R n w xs ls (k + 1) xs'' ls''
  go_more {xs''} {ls''} q i s =
      record {
        within = omega arith;
        long = ap length s.bytes ∙ length-sets xs' (k * R + get_or ls' k 0) (written (w k (get_or ls' k 0))) ∙ g.long;
        places = ap length s.lengths ∙ length-set ls' k (get_or ls' k 0 + length (written (w k (get_or ls' k 0)))) ∙ g.places;
        later = λ P h. rw s.lengths (get_or-set_other ls' k P _ 0 (omega arith)) ∙ g.later P (omega arith);
        holds = λ b xs₀ ls₀ l h f.
            let p : Holds R n (partly w k b) xs₀ ls₀ xs' ls' = g.holds b xs₀ ls₀ l h f in
            let a : used (partly w k b k) ≡ used (b k) = used_is (partly w k b k) (b k) (partly_above w k b k (omega arith)) in
            let u : get_or ls' k 0 ≡ used (b k) = holds_length R n (partly w k b) b xs₀ ls₀ xs' ls' p k q l ∙ a in
            let r : used (b k) + length (written (w k (used (b k)))) ≤ R = (rw u at i) (omega (arith, f k q)) in
            holds_more R n (partly w k b) (partly w (k + 1) b) xs₀ ls₀ xs' ls' p k (written (w k (used (b k)))) xs'' ls'' q l (rw a r) (partly_more w k b) (rw u at s);
      }

  -- past the last party, all have written
  pub go_all : n ≤ k → Going R n w xs ls n xs' ls'
  go_all h = let e : k ≡ n = omega (arith, g.within) in rw e at g
