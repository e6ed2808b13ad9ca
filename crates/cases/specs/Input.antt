-- What the program `rehearse` reads (document 01, "Examples to hold against it"): "numbers low byte first: program length (2), program, k (1),
-- k input counts (2 each), the inputs (4 each), budget (4), turn count (2), turns. It takes at most 8,192 bytes .. and prints `bad input` if
-- bytes lack or remain, or there are more than that."
use Rattle.std.specs.Prelude.{ℕ, ◌+◌, ◌-◌, ◌*◌, Bool, ◌&&◌, cond, List, eqb, leb, ℤ, length, get_or, Option, Some, None, option_map}
use Rattle.stretches.specs.Stretches.{stretch}
use Rattle.words.specs.Words.{number_at}
use Rattle.cases.specs.Rows.{numbers_at, integers_at, sum}
use Rattle.cases.specs.declared.layout.Layout.{Layout}

pub record Case : Type 0 where
  pub program : List ℕ
  pub counts : List ℕ
  pub inputs : List ℤ
  pub budget : ℕ
  pub turns : List ℕ

-- "It takes at most 8,192 bytes"
abbrev pub max_input : ℕ
max_input = 8192

-- where the fields stand, one after the other; the inputs are as many as the k counts sum to, and budget and turn count are six bytes.
-- What stands past the end counts as 0.
unfoldable pub layout_of : List ℕ → Layout
layout_of bs =
    let program_end = 2 + number_at 2 bs 0 in
    let k = get_or bs program_end 0 in
    let counts_at = program_end + 1 in
    let total = sum (numbers_at 2 k bs counts_at) in
    let inputs_at = counts_at + 2 * k in
    let budget_at = inputs_at + 4 * total in
    record {
      end = program_end;
      k = k;
      counts = counts_at;
      total = total;
      inputs = inputs_at;
      budget = budget_at;
      turns = budget_at + 6;
    }

-- the turn count stands after the budget
unfoldable pub turn_count : Layout → List ℕ → ℕ
turn_count l bs = number_at 2 bs (l.budget + 4)

-- not "if bytes lack or remain, or there are more than that": the length is the one that the fields make up, and at most 8,192.
-- (Where a field goes past the end, the fields make up more than there is.)
unfoldable pub fits : Layout → List ℕ → Bool
fits l bs = eqb (length bs) (l.turns + turn_count l bs) && leb (length bs) max_input

-- where the fields of a good input stand; None is `bad input`
unfoldable pub laid_out : List ℕ → Option Layout
laid_out bs = cond (fits (layout_of bs) bs) (Some (layout_of bs)) None

-- the fields that stand at the places
unfoldable pub case_at : List ℕ → Layout → Case
case_at bs l =
    record {
      program = stretch 2 (l.end - 2) bs;
      counts = numbers_at 2 l.k bs l.counts;
      inputs = integers_at l.total bs l.inputs;
      budget = number_at 4 bs l.budget;
      turns = stretch l.turns (turn_count l bs) bs;
    }

-- what is read of the bytes; None is `bad input`
unfoldable pub parsed : List ℕ → Option Case
parsed bs = option_map (case_at bs) (laid_out bs)
