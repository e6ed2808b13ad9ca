-- What a call leaves, by what its tests answer: one law for each way that it ends. Assumes nothing.
use mathlib.Core.Path.{◌≡◌, refl}
use mathlib.Core.Bool.{true, false}
use mathlib.Core.List.{List}
use mathlib.Core.Option.{none, some}
use Prim.Native.Nat.{ℕ}
use lib.IntN.{ℤ}
use lib.ListN.{length, replicate}
use Rattle.program.specs.Answer.{accepted, refused, check_answer}
use Rattle.program.specs.Check.{Program, good, checked}
use Rattle.refusals.specs.Numbers.{bad_program, bad_counts, bad_turn, too_little_lent}
use Rattle.rules.specs.Books.{Books}
use Rattle.rules.specs.Lent.{Lent, Is, unchanged, room_of, counts_fit, enough_lent, left_by}
use Rattle.rules.specs.Calls.{Call, call_of}
use Rattle.ledger.specs.Ledger.{Holds}
use Rattle.ledger.proofs.LentLaws.{accepted_is, refused_is}

-- everything lent
abbrev pub lent : (program counts : List ℕ) → List ℤ → (records lengths work : List ℕ) → Lent
lent program counts inputs records lengths work = record { program = program; counts = counts; inputs = inputs; records = records; lengths = lengths; work = work }

-- what is left where the bytes and lengths hold the books b, and the working area is zero
pub left_is : {A : Type 0} {a answer : A} (n : ℕ) (L : Lent) (b : Books) {rs ls w : List ℕ} → a ≡ answer → Holds (room_of n L) n b L.records L.lengths rs ls
    → w ≡ replicate (length L.work) 0 → Is (left_by n L answer b) a rs ls w
unfolding left_by
left_is n L b e h z = record { answer = e; records = h.bytes; lengths = h.lengths; work = z }

module _ {A : Type 0} (c : Call A) (L : Lent) where
  -- it is refused, and all is as it was
  abbrev Refused : (number place : ℕ) → Type 0
  Refused number place = Is (call_of c L (checked L.program)) (c.refuse number place) L.records L.lengths L.work

  same : (a : A) → Is (unchanged L a) a L.records L.lengths L.work
  unfolding unchanged
  same a = record { answer = refl; records = refl; lengths = refl; work = refl }

  pub call_bad : (place : ℕ) → check_answer L.program ≡ refused bad_program place → Refused bad_program place
  unfolding call_of
  call_bad place e = rw (refused_is L.program place e) (same _)

  module _ (n k : ℕ) (e : check_answer L.program ≡ accepted n k) where
    pub call_counts : counts_fit n L ≡ false → Refused bad_counts 0
    unfolding call_of
    call_counts f = let g = accepted_is L.program n k e in rw (g.checks, g.parties, f) (same _)

    pub call_turn : (index : ℕ) → counts_fit n L ≡ true → c.first_bad n ≡ some index → Refused bad_turn index
    unfolding call_of
    call_turn index f t = let g = accepted_is L.program n k e in rw (g.checks, g.parties, f, t) (same _)

    pub call_short : counts_fit n L ≡ true → c.first_bad n ≡ none → enough_lent n (c.areas n) L ≡ false → Refused too_little_lent 0
    unfolding call_of
    call_short f t s = let g = accepted_is L.program n k e in rw (g.checks, g.parties, f, t, s) (same _)

    -- it leaves what its run leaves
    pub call_runs : {a : A} {rs ls w : List ℕ} → counts_fit n L ≡ true → c.first_bad n ≡ none → enough_lent n (c.areas n) L ≡ true
        → ((p : Program) → checked L.program ≡ good p → p.parties ≡ n → length p.nodes ≡ k → Is (c.run p) a rs ls w) → Is (call_of c L (checked L.program)) a rs ls w
    unfolding call_of
    call_runs f t s run = let g = accepted_is L.program n k e in rw (g.checks, g.parties, f, t, s) (run g.program g.checks g.parties g.nodes)
