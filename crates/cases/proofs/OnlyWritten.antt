-- A good input is what is written of its case: nothing else is good. Assumes nothing.
use mathlib.Core.Path.{◌≡◌, refl, sym, ap, ◌∙◌}
use mathlib.Core.Bool.{Bool, true, false, cond}
use mathlib.Core.List.{List, [], ◌∷◌, ◌++◌, append_assoc, append-nil}
use Rattle.std.specs.Prelude.{Option, Some, None, option_map}
use Prim.Native.Nat.{ℕ, zero, suc, ◌+◌, ◌-◌, ◌*◌, ◌/◌, ◌%◌, ◌^◌, ◌≤◌, ◌<◌}
use native.Mathlib.Nat.{mul-zero, mul-suc, pow-suc}
use native.Mathlib.Numerals.{add-one}
use native.Mathlib.Omega.{arith}
use lib.Dec.{ltb}
use lib.IntN.{pos, ◌-ℤ◌}
use lib.ListN.{length, get_or, take, drop, take-append-drop, length-drop}
use lib.Seq.{drop-cons, drop-drop, take-add, take_all, length-take-le}
use borrow.Author.Tests.{ltb-true, ltb-false, lt-ltb}
use Rattle.numbers.specs.Integers.{residue, signed}
use Rattle.stretches.specs.Stretches.{stretch}
use Rattle.words.specs.Words.{number_at, integer_at, low_first, integer_bytes}
use Rattle.cases.specs.Rows.{row, numbers_at, integers_at}
use Rattle.cases.specs.Input.{Case, layout_of, turn_count, laid_out, case_at, parsed}
use Rattle.cases.specs.Written.{joined, input_bytes}
use Rattle.cases.specs.declared.layout.Layout.{Layout}
use Rattle.cases.proofs.RowLaws.{row_length}
use Rattle.cases.proofs.InputLaws.{fitting}

-- 32 bits are those of the integer that they stand for
residue_signed : (n : ℕ) → n < 2 ^ 32 → residue (signed n) ≡ n
residue_signed n h = go (ltb n (2 ^ 31)) refl
  where
    go : (t : Bool) → ltb n (2 ^ 31) ≡ t → residue (cond t (pos n) (pos n -ℤ pos (2 ^ 32))) ≡ n
    go true e = omega (arith, ltb-true n (2 ^ 31) e)
    go false e = rw (lt-ltb n (2 ^ 32) h) (omega (arith, ltb-false n (2 ^ 31) e))

-- ---- a number and its bytes
module _ (bs : List ℕ) (bytes : (i : ℕ) → get_or bs i 0 < 256) where
  number_below : (k i : ℕ) → number_at k bs i < 256 ^ k
  unfolding number_at
  number_below zero i = omega arith
  number_below (suc k) i = omega (arith, bytes i, number_below k (i + 1), pow-suc 256 k)

  bytes_of_number : (k i : ℕ) → i + k ≤ length bs → low_first k (number_at k bs i) ≡ stretch i k bs
  unfolding number_at low_first
  bytes_of_number zero i h = refl
  bytes_of_number (suc k) i h =
      let n : ℕ = number_at k bs (i + 1) in
      let first : (get_or bs i 0 + 256 * n) % 256 ≡ get_or bs i 0 = omega (arith, bytes i) in
      let rest : (get_or bs i 0 + 256 * n) / 256 ≡ n = omega (arith, bytes i) in
      rw (drop-cons bs i 0 (omega arith), first, rest)
      (ap (λ (t : List ℕ). get_or bs i 0 ∷ t) (bytes_of_number k (i + 1) (omega arith) ∙ ap (λ (j : ℕ). take k (drop j bs)) (add-one i)))

  bytes_of_integer : (i : ℕ) → i + 4 ≤ length bs → integer_bytes (integer_at bs i) ≡ stretch i 4 bs
  bytes_of_integer i h = rw (residue_signed (number_at 4 bs i) (number_below 4 i)) (bytes_of_number 4 i h)

  -- ---- a row of values and their bytes
  module _ {A : Type 0} (w : ℕ) (written : A → List ℕ) (at : ℕ → A) (own : (i : ℕ) → i + w ≤ length bs → written (at i) ≡ stretch i w bs) where
    joined_snoc : (xs : List A) (x : A) → joined written (xs ++ (x ∷ [])) ≡ joined written xs ++ written x
    unfolding joined
    joined_snoc [] x = append-nil (written x)
    joined_snoc (y ∷ xs) x = rw (joined_snoc xs x, append_assoc)

    bytes_of_row : (k i : ℕ) → i + w * k ≤ length bs → joined written (row k (λ j. at (i + w * j))) ≡ stretch i (w * k) bs
    unfolding row
    bytes_of_row zero i h = unfold joined in rw mul-zero
    bytes_of_row (suc k) i h =
        let m : w * suc k ≡ w * k + w = mul-suc w k in
        joined_snoc (row k (λ j. at (i + w * j))) (at (i + w * k))
        ∙ rw (bytes_of_row k i (omega arith), own (i + w * k) (omega arith), m, take-add (w * k) w (drop i bs), drop-drop (w * k) i bs)

  -- ---- the stretches of the fields make up the whole
  with_rest : (a n m : ℕ) → m ≡ a + n → stretch a n bs ++ drop m bs ≡ drop a bs
  with_rest a n m e = rw (e, ← drop-drop n a bs) (take-append-drop n (drop a bs))

  module _ (h : length bs ≡ (layout_of bs).turns + turn_count (layout_of bs) bs) where
    abbrev l : Layout
    l = layout_of bs

    program_length : length (stretch 2 (l.end - 2) bs) ≡ number_at 2 bs 0
    unfolding layout_of
    program_length =
        let e : 2 + number_at 2 bs 0 - 2 ≡ number_at 2 bs 0 = omega arith in
        rw e (length-take-le (number_at 2 bs 0) (drop 2 bs) (rw length-drop (omega arith)))

    turns_length : length (stretch l.turns (turn_count l bs) bs) ≡ turn_count l bs
    turns_length = length-take-le (turn_count l bs) (drop l.turns bs) (rw length-drop (omega arith))

    turns_rest : stretch l.turns (turn_count l bs) bs ≡ drop l.turns bs
    turns_rest = take_all (turn_count l bs) (drop l.turns bs) (rw length-drop (omega arith))

    -- from each field on, the last first
    abbrev turns : List ℕ
    turns = stretch l.turns (turn_count l bs) bs

    from_turn_count : low_first 2 (length turns) ++ turns ≡ drop (l.budget + 4) bs
    unfolding layout_of turn_count
    from_turn_count = rw (turns_length, turns_rest, bytes_of_number 2 (l.budget + 4) (omega arith)) (with_rest (l.budget + 4) 2 l.turns (omega arith))

    from_budget : low_first 4 (number_at 4 bs l.budget) ++ (low_first 2 (length turns) ++ turns) ≡ drop l.budget bs
    unfolding layout_of
    from_budget = rw (from_turn_count, bytes_of_number 4 l.budget (omega arith)) (with_rest l.budget 4 (l.budget + 4) refl)

    from_inputs : joined integer_bytes (integers_at l.total bs l.inputs) ++ drop l.budget bs ≡ drop l.inputs bs
    unfolding layout_of integers_at
    from_inputs =
        rw (bytes_of_row 4 integer_bytes (integer_at bs) bytes_of_integer l.total l.inputs (omega arith)) (with_rest l.inputs (4 * l.total) l.budget refl)

    from_counts : joined (low_first 2) (numbers_at 2 l.k bs l.counts) ++ drop l.inputs bs ≡ drop l.counts bs
    unfolding layout_of numbers_at
    from_counts = rw (bytes_of_row 2 (low_first 2) (number_at 2 bs) (bytes_of_number 2) l.k l.counts (omega arith)) (with_rest l.counts (2 * l.k) l.inputs refl)

    k_length : length (numbers_at 2 l.k bs l.counts) ≡ l.k
    unfolding numbers_at
    k_length = row_length (λ i. number_at 2 bs (l.counts + 2 * i)) l.k

    from_k : l.k ∷ drop l.counts bs ≡ drop l.end bs
    unfolding layout_of
    from_k = rw (drop-cons bs (2 + number_at 2 bs 0) 0 (omega arith), add-one)

    from_program : stretch 2 (l.end - 2) bs ++ drop l.end bs ≡ drop 2 bs
    unfolding layout_of
    from_program = with_rest 2 (l.end - 2) l.end (omega arith)

    from_start : low_first 2 (number_at 2 bs 0) ++ drop 2 bs ≡ bs
    unfolding layout_of
    from_start = rw (bytes_of_number 2 0 (omega arith)) (with_rest 0 2 2 refl)

    case_bytes : input_bytes (case_at bs l) ≡ bs
    unfolding input_bytes case_at
    case_bytes = rw (program_length, k_length, from_budget, from_inputs, from_counts, from_k, from_program, from_start)

  pub only_written : (c : Case) → parsed bs ≡ Some c → input_bytes c ≡ bs
  unfolding parsed
  only_written c e = go (laid_out bs) refl e
    where
      go : (o : Option Layout) → laid_out bs ≡ o → option_map (case_at bs) o ≡ Some c → input_bytes c ≡ bs
      go None q h = absurd (let z : ◌≡◌ {A = ℕ} 0 1 = cc in omega arith)
      go (Some m) q h =
          let f = fitting bs m (sym q) in
          let g : c ≡ case_at bs (layout_of bs) = let u : c ≡ case_at bs m = cc in u ∙ ap (case_at bs) f.0 in
          let n : length bs ≡ (layout_of bs).turns + turn_count (layout_of bs) bs = f.1 ∙ ap (λ (x : Layout). x.turns + turn_count x bs) f.0 in
          ap input_bytes g ∙ case_bytes n
