-- How long the lines are, and the parties' lines put one by one. Assumes nothing.
use mathlib.Core.Path.{◌≡◌}
use Prim.Native.Nat.{ℕ, zero, suc, ◌+◌, ◌*◌, ◌-◌, ◌/◌, ◌≤◌, ◌<◌}
use mathlib.Core.List.{List}
use native.Mathlib.Nat.{suc-mul, mul_comm, mul-le-mul_right, div-mul-le_self}
use native.Mathlib.Numerals.{add-one}
use native.Mathlib.Omega.{arith}
use lib.ListN.{length, get_or, take, drop, length-append, length-take}
use Rattle.text.specs.Text.{ascii, Puts}
use Rattle.text.specs.TextLaws.{decimal_short, puts_nothing, puts_then, spaced_short}
use Rattle.invariants.specs.Left.{record_of}
use Rattle.printing.specs.Lines.{one_number, two_numbers, party_line, party_lines, record_lines}
use Rattle.printing.specs.Shown.{Fit, most_of_party, most_of_records, unanswered}

pub one_short : (word : List ℕ) (x : ℕ) → length (one_number word x) ≤ length word + 21
unfolding one_number ascii
one_short word x = simp length-append (omega (arith, decimal_short x))

pub two_short : (word : List ℕ) (x y : ℕ) → length (two_numbers word x y) ≤ length word + 42
unfolding two_numbers ascii
two_short word x y = simp length-append (omega (arith, decimal_short x, one_short (ascii " ") y))

pub party_short : (P : ℕ) (bs : List ℕ) → length (party_line P bs) ≤ most_of_party bs
unfolding party_line ascii
party_short P bs = simp length-append (omega (arith, decimal_short P, spaced_short bs))

-- ---- the parties' lines

-- the lines of the parties below P, of n, whose records stand in rs with the lengths ls
abbrev pub lines_below : (n : ℕ) → (rs ls : List ℕ) → ℕ → List ℕ
lines_below n rs ls = party_lines (λ P. record_of n P (unanswered rs ls))

-- the part of the records that is lent for party P is its record
pub part_is : (n : ℕ) (rs ls : List ℕ) (P : ℕ)
    → take (P * (length rs / n) + get_or ls P 0 - P * (length rs / n)) (drop (P * (length rs / n)) rs) ≡ record_of n P (unanswered rs ls)
unfolding record_of
part_is n rs ls P = let e : P * (length rs / n) + get_or ls P 0 - P * (length rs / n) ≡ get_or ls P 0 = omega arith in rw e

pub lines_none : (n : ℕ) (rs ls x : List ℕ) (a : ℕ) → Puts (lines_below n rs ls 0) a a x x
unfolding party_lines
lines_none n rs ls x a = puts_nothing

pub lines_more : (n : ℕ) (rs ls x y z : List ℕ) (P a b c : ℕ) → Puts (lines_below n rs ls P) a b x y → Puts (party_line P (record_of n P (unanswered rs ls))) b c y z → Puts (lines_below n rs ls (P + 1)) a c x z
unfolding party_lines
lines_more n rs ls x y z P a b c p q = rw add-one (puts_then p q)

pub lines_all : (n : ℕ) (rs ls x y : List ℕ) (P a b : ℕ) → P ≡ n → Puts (lines_below n rs ls P) a b x y → Puts (record_lines n (unanswered rs ls)) a b x y
unfolding record_lines
lines_all n rs ls x y P a b e p = rw e at p

module _ (n : ℕ) (rs ls : List ℕ) (fit : Fit n rs ls) where
  all_inside : n * (length rs / n) ≤ length rs
  all_inside = rw mul_comm (div-mul-le_self (length rs) n)

  -- a party's record ends within the records
  pub part_inside : (P : ℕ) → P < n → P * (length rs / n) + get_or ls P 0 ≤ length rs
  part_inside P h = omega (arith, all_inside, suc-mul P (length rs / n), mul-le-mul_right {m = suc P} {n = n} (length rs / n) h, fit.inside P h)

  record_short : (P : ℕ) → P < n → length (record_of n P (unanswered rs ls)) ≤ length rs / n
  unfolding record_of
  record_short P h = omega (arith, length-take (get_or ls P 0) (drop (P * (length rs / n)) rs), fit.inside P h)

  lines_short : (P : ℕ) → P ≤ n → length (lines_below n rs ls P) ≤ P * 22 + 2 * (P * (length rs / n))
  unfolding party_lines
  lines_short zero h = omega arith
  lines_short (suc P) h =
      rw length-append
      (omega (arith, lines_short P (omega arith), party_short P (record_of n P (unanswered rs ls)), record_short P h, suc-mul P (length rs / n)))

  -- there is room for the next party's line
  pub line_room : (x y : List ℕ) (P a b : ℕ) → P < n → a + most_of_records ≤ length x → Puts (lines_below n rs ls P) a b x y → b + most_of_party (record_of n P (unanswered rs ls)) ≤ length x
  line_room x y P a b h room p =
      omega (
        arith,
        p.end,
        lines_short P (omega arith),
        record_short P h,
        all_inside,
        fit.few,
        fit.small,
        suc-mul P (length rs / n),
        mul-le-mul_right {m = suc P} {n = n} (length rs / n) h,
      )

  -- all of them
  pub records_short : length (record_lines n (unanswered rs ls)) ≤ most_of_records
  unfolding record_lines
  records_short = omega (arith, lines_short n (omega arith), all_inside, fit.few, fit.small)
