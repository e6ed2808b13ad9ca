-- What is written of a case is read back: every case that can be written is good, and is the one that is read. Assumes nothing.
use mathlib.Core.Path.{◌≡◌, refl, sym, ap, ◌∙◌}
use mathlib.Core.List.{List, [], ◌∷◌, ◌++◌, append_assoc}
use Rattle.std.specs.Prelude.{Some, option_map}
use Prim.Native.Nat.{ℕ, ◌+◌, ◌-◌, ◌*◌, ◌^◌, ◌<◌}
use native.Mathlib.Omega.{arith}
use lib.ListN.{length, get_or, length-append}
use lib.Seq.{take-length, take_at, drop_at, get_or_at}
use mir.Syntax.{w32}
use mir.Val.{SFits}
use Rattle.numbers.specs.Integers.{residue}
use Rattle.stretches.specs.Stretches.{stretch}
use Rattle.words.specs.Words.{number_at, integer_at, low_first, integer_bytes}
use Rattle.words.proofs.WordLaws.{length_bytes, number_in, integer_in}
use Rattle.cases.specs.Rows.{numbers_at, integers_at}
use Rattle.cases.specs.Input.{Case, turn_count, laid_out, case_at, parsed}
use Rattle.cases.specs.Written.{joined, input_bytes, Writable}
use Rattle.cases.proofs.InputLaws.{places, good}
use Rattle.cases.proofs.JoinedLaws.{joined_length, row_in}

-- ---- a case that can be written, and where its fields stand
module _ (c : Case) (w : Writable c) where
  abbrev bs : List ℕ
  bs = input_bytes c

  -- the bytes before a field, and those from it on
  abbrev before_program : List ℕ
  before_program = low_first 2 (length c.program)

  abbrev before_k : List ℕ
  before_k = before_program ++ c.program

  abbrev before_counts : List ℕ
  before_counts = before_k ++ (length c.counts ∷ [])

  abbrev before_inputs : List ℕ
  before_inputs = before_counts ++ joined (low_first 2) c.counts

  abbrev before_budget : List ℕ
  before_budget = before_inputs ++ joined integer_bytes c.inputs

  abbrev before_turn_count : List ℕ
  before_turn_count = before_budget ++ low_first 4 c.budget

  abbrev before_turns : List ℕ
  before_turns = before_turn_count ++ low_first 2 (length c.turns)

  abbrev from_inputs : List ℕ
  from_inputs = joined integer_bytes c.inputs ++ (low_first 4 c.budget ++ (low_first 2 (length c.turns) ++ c.turns))

  abbrev from_counts : List ℕ
  from_counts = joined (low_first 2) c.counts ++ from_inputs

  -- the bytes taken apart at each field, and where it stands
  split_k : bs ≡ before_k ++ (length c.counts ∷ from_counts)
  unfolding input_bytes
  split_k = simp append_assoc

  split_counts : bs ≡ before_counts ++ from_counts
  unfolding input_bytes
  split_counts = simp append_assoc

  split_inputs : bs ≡ before_inputs ++ from_inputs
  unfolding input_bytes
  split_inputs = simp append_assoc

  split_budget : bs ≡ before_budget ++ (low_first 4 c.budget ++ (low_first 2 (length c.turns) ++ c.turns))
  unfolding input_bytes
  split_budget = simp append_assoc

  split_turn_count : bs ≡ before_turn_count ++ (low_first 2 (length c.turns) ++ c.turns)
  unfolding input_bytes
  split_turn_count = simp append_assoc

  split_turns : bs ≡ before_turns ++ c.turns
  unfolding input_bytes
  split_turns = simp append_assoc

  length_k : length before_k ≡ 2 + length c.program
  length_k = length-append before_program c.program ∙ omega (arith, length_bytes 2 (length c.program))

  length_counts : length before_counts ≡ 2 + length c.program + 1
  length_counts = length-append before_k (length c.counts ∷ []) ∙ omega (arith, length_k)

  length_inputs : length before_inputs ≡ 2 + length c.program + 1 + 2 * length c.counts
  length_inputs = length-append before_counts (joined (low_first 2) c.counts) ∙ omega (arith, length_counts, joined_length 2 (low_first 2) (length_bytes 2) c.counts)

  length_budget : length before_budget ≡ 2 + length c.program + 1 + 2 * length c.counts + 4 * length c.inputs
  length_budget = length-append before_inputs (joined integer_bytes c.inputs) ∙ omega (arith, length_inputs, joined_length 4 integer_bytes (λ z. length_bytes 4 (residue z)) c.inputs)

  length_turn_count : length before_turn_count ≡ 2 + length c.program + 1 + 2 * length c.counts + 4 * length c.inputs + 4
  length_turn_count = length-append before_budget (low_first 4 c.budget) ∙ omega (arith, length_budget, length_bytes 4 c.budget)

  length_turns : length before_turns ≡ 2 + length c.program + 1 + 2 * length c.counts + 4 * length c.inputs + 6
  length_turns = length-append before_turn_count (low_first 2 (length c.turns)) ∙ omega (arith, length_turn_count, length_bytes 2 (length c.turns))

  whole : length bs ≡ 2 + length c.program + 1 + 2 * length c.counts + 4 * length c.inputs + 6 + length c.turns
  whole = ap length split_turns ∙ length-append before_turns c.turns ∙ omega (arith, length_turns)

  -- ---- what is read there
  program_length_is : length c.program ≡ number_at 2 bs 0
  unfolding input_bytes
  program_length_is = sym (number_in 2 (length c.program) [] _ (omega (arith, w.short, whole)))

  k_is : get_or bs (2 + length c.program) 0 ≡ length c.counts
  k_is = rw (split_k, get_or_at before_k (length c.counts) from_counts 0 (2 + length c.program) length_k)

  counts_are : numbers_at 2 (length c.counts) bs (2 + length c.program + 1) ≡ c.counts
  unfolding numbers_at
  counts_are = rw (split_counts, ← length_counts) (row_in 2 (λ n. n < 256 ^ 2) (low_first 2) (number_at 2) (length_bytes 2) (λ n b a h. number_in 2 n b a h) c.counts before_counts from_inputs w.counts)

  inputs_are : integers_at (length c.inputs) bs (2 + length c.program + 1 + 2 * length c.counts) ≡ c.inputs
  unfolding integers_at
  inputs_are = rw (split_inputs, ← length_inputs) (row_in 4 (SFits w32) integer_bytes integer_at (λ z. length_bytes 4 (residue z)) (λ z b a h. integer_in z b a h) c.inputs before_inputs _ w.inputs)

  budget_is : number_at 4 bs (2 + length c.program + 1 + 2 * length c.counts + 4 * length c.inputs) ≡ c.budget
  budget_is = rw (split_budget, ← length_budget) (number_in 4 c.budget before_budget _ w.budget)

  turn_count_is : number_at 2 bs (2 + length c.program + 1 + 2 * length c.counts + 4 * length c.inputs + 4) ≡ length c.turns
  turn_count_is = rw (split_turn_count, ← length_turn_count) (number_in 2 (length c.turns) before_turn_count c.turns (omega (arith, w.short, whole)))

  program_is : stretch 2 (2 + length c.program - 2) bs ≡ c.program
  unfolding input_bytes
  program_is =
      let n : 2 + length c.program - 2 ≡ length c.program = omega arith in
      rw (n, drop_at before_program (c.program ++ ((length c.counts ∷ []) ++ from_counts)) 2 (length_bytes 2 (length c.program)))
      (take_at c.program ((length c.counts ∷ []) ++ from_counts) (length c.program) refl)

  turns_are : stretch (2 + length c.program + 1 + 2 * length c.counts + 4 * length c.inputs + 6) (length c.turns) bs ≡ c.turns
  turns_are = rw (split_turns, drop_at before_turns c.turns (2 + length c.program + 1 + 2 * length c.counts + 4 * length c.inputs + 6) length_turns) (take-length c.turns)

  laid_out_lem : Some (places bs (length c.program) (length c.inputs)) ≡ laid_out bs
  laid_out_lem =
      good bs (length c.program) program_length_is (length c.inputs) (rw (k_is, counts_are) (sym w.total)) (length c.turns) (rw k_is (sym turn_count_is)) (rw k_is whole) w.short

  pub read_back : parsed (input_bytes c) ≡ Some c
  unfolding parsed case_at turn_count
  read_back = ap (option_map (case_at bs)) (sym laid_out_lem) ∙ rw (k_is, program_is, counts_are, inputs_are, budget_is, turn_count_is, turns_are)
