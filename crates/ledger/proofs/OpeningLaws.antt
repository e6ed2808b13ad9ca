-- The start of a run: where control is, and the books, with nothing written and no length above 0. Assumes nothing.
use mathlib.Core.Path.{◌≡◌, refl, sym, ap, ◌∙◌}
use mathlib.Core.List.{List, [], ◌++◌}
use Prim.Native.Nat.{ℕ, zero, suc, ◌-◌, ◌≤◌}
use native.Mathlib.Numerals.{add-one}
use native.Mathlib.Omega.{arith}
use lib.IntN.{ℤ}
use borrow.Author.Fill.{fill_none, fill_more}
use lib.ListN.{length, get_or, set, take, drop, replicate}
use lib.Seq.{length-take-le}
use Rattle.parties.specs.Sets.{all}
use Rattle.parties.specs.declared.sets.PartySet.{PartySet}
use Rattle.program.specs.Check.{Program}
use Rattle.records.specs.Events.{written, held_back}
use Rattle.rules.specs.Books.{opening, used}
use Rattle.rules.specs.Moves.{start}
use Rattle.rules.specs.Names.{none_bound}
use Rattle.rules.specs.Lent.{records_left, lengths_left}
use Rattle.invariants.proofs.RoomLaws.{start_spare}
use Rattle.ledger.specs.Ledger.{none_used, Fits}

-- ---- control at the root, in the mode of all
pub starts_at : (p : Program) (n nodes : ℕ) (mode : PartySet) → mode ≡ all n → p.parties ≡ n → length p.nodes ≡ nodes
    → record { node = nodes - 1; mode = mode; names = none_bound; frames = [] } ≡ start p
unfolding start
starts_at p n nodes mode em q len = rw (em, q, len)

-- ---- lists of 0
pub zeros : (k P : ℕ) → get_or {A = ℕ} (replicate k 0) P 0 ≡ 0
zeros zero P = refl
zeros (suc k) zero = refl
zeros (suc k) (suc P) = zeros k P

-- ---- lengths of 0
filled : (n : ℕ) (ls : List ℕ) → n ≤ length ls → none_used n ls ≡ replicate n 0 ++ drop n ls
unfolding none_used
filled zero ls h = fill_none ls 0
filled (suc n) ls h = ap (λ (r : List ℕ). set r n 0) (filled n ls (omega arith)) ∙ rw add-one at (fill_more n 0 ls (omega arith))

pub cleared : (n : ℕ) (ls zs : List ℕ) → n ≤ length ls → zs ≡ replicate (length (take n ls)) 0 → zs ++ drop n ls ≡ none_used n ls
cleared n ls zs h e = rw (e, length-take-le n ls h) (sym (filled n ls h))

-- ---- the books at the start, in the lent bytes
module _ (inputs : ℕ → List ℤ) where
  pub opening_lengths : (n : ℕ) (ls : List ℕ) → none_used n ls ≡ lengths_left n (opening inputs) ls
  unfolding none_used lengths_left used written
  opening_lengths zero ls = refl
  opening_lengths (suc n) ls = ap (λ (x : List ℕ). set x n 0) (opening_lengths n ls)

  pub opening_records : (n R : ℕ) (xs : List ℕ) → xs ≡ records_left n R (opening inputs) xs
  unfolding records_left written
  opening_records zero R xs = refl
  opening_records (suc n) R xs = opening_records n R xs

  pub opening_fits : (R n : ℕ) → held_back ≤ R → Fits R n (opening inputs)
  opening_fits R n h P l = start_spare R inputs h P
