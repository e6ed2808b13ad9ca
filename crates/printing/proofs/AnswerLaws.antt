-- The parties' lines after the answer's line. Assumes nothing.
use mathlib.Core.Path.{◌≡◌, refl}
use Prim.Native.Nat.{ℕ, ◌+◌, ◌≤◌}
use mathlib.Core.List.{List, ◌++◌}
use native.Mathlib.Omega.{arith}
use lib.ListN.{length, length-append}
use Rattle.text.specs.Text.{Puts}
use Rattle.text.specs.TextLaws.{puts_length}
use Rattle.invariants.specs.Left.{record_of}
use Rattle.printing.specs.Lines.{record_lines}
use Rattle.printing.specs.Shown.{shown, unanswered, Fit, most_of_records, most_of_answer, most_of_one}
use Rattle.printing.proofs.LineLaws.{records_short}

-- there is room for them
pub room_after : {s o o' : List ℕ} {a b : ℕ} → Puts s a b o o' → length s ≤ most_of_answer → a + most_of_one ≤ length o → b + most_of_records ≤ length o'
room_after p h room = omega (arith, p.end, puts_length p)

-- they do not depend on the answer
pub lines_of : {A : Type 0} (answer : A) (n : ℕ) (rs ls : List ℕ) → record_lines n (unanswered rs ls) ≡ record_lines n (shown answer rs ls)
unfolding record_lines record_of
lines_of answer n rs ls = refl

-- how long both are at most
pub after_short : {A : Type 0} (answer : A) (n : ℕ) (rs ls s : List ℕ) → length s ≤ most_of_answer → Fit n rs ls → length (s ++ record_lines n (shown answer rs ls)) ≤ most_of_one
after_short answer n rs ls s h f = rw (← lines_of answer n rs ls, length-append) (omega (arith, records_short n rs ls f))
