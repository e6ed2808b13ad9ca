-- What a call leaves holds each party's record, at its place and with its length. Assumes nothing.
use mathlib.Core.Path.{◌≡◌, refl, ◌∙◌}
use mathlib.Core.List.{List}
use Prim.Native.Nat.{ℕ, zero, suc, ◌+◌, ◌*◌, ◌/◌, ◌≤◌, ◌<◌}
use native.Mathlib.Nat.{div-mul-le_self, mul_comm, suc-mul}
use native.Mathlib.Decide.{dec_lt}
use native.Mathlib.Omega.{arith}
use lib.ListN.{length, get_or, take, drop, length-set}
use lib.Seq.{length-sets, get_or-set_same, get_or-set_other}
use Rattle.records.specs.Events.{written}
use Rattle.rules.specs.Books.{Books, used}
use Rattle.rules.specs.Lent.{Lent, room_of, records_left, lengths_left, left_by}
use Rattle.invariants.specs.Left.{record_of}
use Rattle.invariants.proofs.RowLaws.{rows, stored, part_before}

-- ---- the records of n parties, side by side

pub length_records : (n R : ℕ) (b : Books) (xs : List ℕ) → length (records_left n R b xs) ≡ length xs
unfolding records_left
length_records zero R b xs = refl
length_records (suc P) R b xs = length-sets (records_left P R b xs) (P * R) (written (b P).events) ∙ length_records P R b xs

record_in : (n R : ℕ) (b : Books) (xs : List ℕ) → n * R ≤ length xs → ((Q : ℕ) → Q < n → used (b Q) ≤ R)
    → (P : ℕ) → P < n → take (used (b P)) (drop (P * R) (records_left n R b xs)) ≡ written (b P).events
unfolding records_left used
record_in zero R b xs h f P l = absurd (let z : P < 0 = l in omega arith)
record_in (suc m) R b xs h f P l =
    let s : suc m * R ≡ m * R + R = suc-mul m R in
    elim (dec_lt P m) [
      | yes q ↦
          part_before (written (b m).events) (records_left m R b xs) (P * R) (used (b P)) (m * R) (omega (arith, rows P m R q, f P l))
          ∙ record_in m R b xs (omega (arith, h, s)) (λ Q g. f Q (omega arith)) P q
      | no q ↦
          let e : P ≡ m = omega arith in
          rw e (stored (written (b m).events) (records_left m R b xs) (m * R) (rw (length_records m R b xs) (omega (arith, h, s, f m (omega arith)))))
    ]

-- n rooms of a part each are in the whole
pub rooms_within : (x n : ℕ) → n * (x / n) ≤ x
rooms_within x n = let e : n * (x / n) ≡ x / n * n = mul_comm n (x / n) in omega (arith, div-mul-le_self x n)

-- ---- their lengths

pub length_lengths : (n : ℕ) (b : Books) (ls : List ℕ) → length (lengths_left n b ls) ≡ length ls
unfolding lengths_left
length_lengths zero b ls = refl
length_lengths (suc P) b ls = length-set (lengths_left P b ls) P (used (b P)) ∙ length_lengths P b ls

-- each party's length is what it used
pub length_of : (n P : ℕ) (b : Books) (ls : List ℕ) → P < n → n ≤ length ls → get_or (lengths_left n b ls) P 0 ≡ used (b P)
unfolding lengths_left
length_of zero P b ls h l = absurd (let z : P < 0 = h in omega arith)
length_of (suc m) P b ls h l =
    elim (dec_lt P m) [
      | yes q ↦ get_or-set_other (lengths_left m b ls) m P (used (b m)) 0 (omega arith) ∙ length_of m P b ls q (omega arith)
      | no q ↦
          let e : P ≡ m = omega arith in
          rw e (get_or-set_same (lengths_left m b ls) m (used (b m)) 0 (rw (length_lengths m b ls) (omega arith)))
    ]

-- ---- what a call leaves

module _ {A : Type 0} (n : ℕ) (L : Lent) (a : A) (b : Books) where
  -- each of the first n places has its party's used length
  pub length_left : n ≤ length L.lengths → (P : ℕ) → P < n → get_or (left_by n L a b).lengths P 0 ≡ used (b P)
  unfolding left_by
  length_left h P l = length_of n P b L.lengths l h

  -- each party's area begins with its record
  pub record_left : n ≤ length L.lengths → ((Q : ℕ) → Q < n → used (b Q) ≤ room_of n L) → (P : ℕ) → P < n → record_of n P (left_by n L a b) ≡ written (b P).events
  unfolding left_by record_of room_of
  record_left h f P l =
      let R = length L.records / n in
      rw (length_of n P b L.lengths l h, length_records n R b L.records) (record_in n R b L.records (rooms_within (length L.records) n) f P l)
