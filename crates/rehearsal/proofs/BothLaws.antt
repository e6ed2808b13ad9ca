-- The lines of a run are put from what its call leaves, and those of both runs one after the other are those of the input. Assumes nothing.
use mathlib.Core.Path.{◌≡◌, ◌∙◌}
use Prim.Native.Nat.{ℕ, ◌*◌, ◌≤◌}
use mathlib.Core.List.{List}
use Rattle.std.specs.Prelude.{Some, None}
use native.Mathlib.Omega.{arith}
use lib.IntN.{ℤ}
use lib.ListN.{length, length-replicate}
use Rattle.program.specs.Answer.{check_answer}
use Rattle.rules.specs.Lent.{Lent, Is}
use Rattle.rules.specs.Calls.{single_call, joint_call}
use Rattle.text.specs.Text.{ascii, Puts}
use Rattle.text.specs.TextLaws.{puts_then}
use Rattle.cases.specs.Input.{Case, parsed}
use Rattle.cases.specs.declared.lending.Lending.{Lending}
use Rattle.printing.specs.Lines.{single_lines, joint_lines}
use Rattle.printing.specs.declared.lines.SingleLine.{SingleLine}
use Rattle.printing.specs.declared.lines.JointLine.{JointLine}
use Rattle.printing.specs.Shown.{max_records, most_of_one, single_said, joint_said, single_shown, joint_shown, single_fits, joint_fits}
use Rattle.rehearsal.specs.Both.{parties_of, filled, single_printed, joint_printed, shown_case, shown}
use Rattle.rehearsal.specs.Spaces.{Filled, PutsAtMost}
use Rattle.printing.proofs.ShownLaws.{single_lines_lem, joint_lines_lem, single_short, joint_short}
use Rattle.rehearsal.proofs.CallLaws.{single_call_fits, joint_call_fits}

put_at_most : {s t x y : List ℕ} {a b most : ℕ} → s ≡ t → length s ≤ most → Puts s a b x y → PutsAtMost most t a b x y
put_at_most e h p = record { puts = rw e at p; short = omega (arith, p.end) }

-- ---- one run, in lists that were filled: it leaves rs and ls
module _ (program counts : List ℕ) (inputs : List ℤ) {rs₀ ls₀ w₀ rs₁ ls₁ w₁ : List ℕ} (rs ls w : List ℕ) (f : Filled rs₀ ls₀ w₀ rs₁ ls₁ w₁) (n : ℕ) (e : n ≡ parties_of (check_answer program))
    (few : length rs₀ ≤ max_records) (r : length rs ≡ length rs₀) (p : length ls ≡ length ls₀) where
  abbrev lent : Lent
  lent = record { program = program; counts = counts; inputs = inputs; records = rs₁; lengths = ls₁; work = w₁ }

  abbrev L : Lent
  L = filled program counts inputs (length rs₀) (length ls₀) (length w₀)

  lent_is : lent ≡ L
  unfolding filled
  lent_is = rw (f.records, f.lengths, f.work)

  few_records : length rs₁ ≤ max_records
  few_records = rw (f.records, length-replicate) few

  same_records : length rs ≡ length rs₁
  same_records = rw (f.records, length-replicate) r

  same_lengths : length ls ≡ length ls₁
  same_lengths = rw (f.lengths, length-replicate) p

  module _ (budget : ℕ) (line : SingleLine) (i : Is (single_call lent budget) (single_said line) rs ls w) where
    pub single_can : single_fits line n rs ls
    single_can = rw e (single_call_fits lent rs ls same_records same_lengths few_records budget w line i)

    pub single_put : {at to : ℕ} {o o' : List ℕ} → Puts (single_lines n (single_shown line rs ls)) at to o o' → PutsAtMost most_of_one (single_printed L budget) at to o o'
    unfolding single_printed filled
    single_put q =
        put_at_most
        (single_lines_lem n (single_call lent budget) line rs ls w i ∙ rw (e, ← lent_is))
        (single_short n line rs ls single_can) q

  module _ (turns : List ℕ) (line : JointLine) (i : Is (joint_call lent turns) (joint_said line) rs ls w) where
    pub joint_can : joint_fits line n rs ls
    joint_can = rw e (joint_call_fits lent rs ls same_records same_lengths few_records turns w line i)

    pub joint_put : {at to : ℕ} {o o' : List ℕ} → Puts (joint_lines n (joint_shown line rs ls)) at to o o' → PutsAtMost most_of_one (joint_printed L turns) at to o o'
    unfolding joint_printed filled
    joint_put q =
        put_at_most
        (joint_lines_lem n (joint_call lent turns) line rs ls w i ∙ rw (e, ← lent_is))
        (joint_short n line rs ls joint_can) q

-- ---- both runs, each with its own working bytes
pub both_put : (program counts : List ℕ) (inputs : List ℤ) (budget : ℕ) (turns : List ℕ) (l : Lending) (r₁ l₁ w₁ r₂ l₂ w₂ : ℕ)
    → r₁ ≡ l.records → l₁ ≡ l.lengths → w₁ ≡ l.single → r₂ ≡ l.records → l₂ ≡ l.lengths → w₂ ≡ l.joint
    → {a b d : ℕ} {x y z : List ℕ}
    → PutsAtMost most_of_one (single_printed (filled program counts inputs r₁ l₁ w₁) budget) a b x y
    → PutsAtMost most_of_one (joint_printed (filled program counts inputs r₂ l₂ w₂) turns) b d y z
    → PutsAtMost (2 * most_of_one) (shown_case l (record { program = program; counts = counts; inputs = inputs; budget = budget; turns = turns })) a d x z
unfolding shown_case
both_put program counts inputs budget turns l r₁ l₁ w₁ r₂ l₂ w₂ e₁ e₂ e₃ e₄ e₅ e₆ p q =
    let s = rw (e₁, e₂, e₃) at p.puts in
    let t = rw (e₄, e₅, e₆) at q.puts in
    record { puts = puts_then s t; short = omega (arith, p.short, q.short) }

-- ---- the input
pub good_put : (l : Lending) (bs : List ℕ) (c : Case) {most a b : ℕ} {x y : List ℕ} → parsed bs ≡ Some c → PutsAtMost most (shown_case l c) a b x y → PutsAtMost most (shown l bs) a b x y
unfolding shown
good_put l bs c e p = rw e p

pub bad_put : (l : Lending) (bs : List ℕ) {a b : ℕ} {x y : List ℕ} → parsed bs ≡ None → Puts (ascii "bad input\n") a b x y → PutsAtMost (2 * most_of_one) (shown l bs) a b x y
unfolding shown ascii
bad_put l bs e p = rw e (record { puts = p; short = omega (arith, p.end) })
