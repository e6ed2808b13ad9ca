-- The head of a case of the vectors, 13 bytes: record bytes lent (4), length places lent (1), working bytes lent to the single run (4) and to the joint run (4).
-- "At most 8,192 record bytes, 17 length places and 266,240 working bytes are lent": a number above that counts as that.
use Rattle.std.specs.Prelude.{ℕ, ◌≤◌, cond, List, ltb, get_or}
use Rattle.words.specs.Words.{number_at}
use Rattle.cases.specs.declared.lending.Lending.{Lending}

-- n, or `most` where n is more
abbrev pub up_to : (most n : ℕ) → ℕ
up_to most n = cond (ltb n most) n most

unfoldable pub lending_of : List ℕ → Lending
lending_of bs =
    record {
      records = up_to 8192 (number_at 4 bs 0);
      lengths = up_to 17 (get_or bs 4 0);
      single = up_to 266240 (number_at 4 bs 5);
      joint = up_to 266240 (number_at 4 bs 9);
    }

-- what keeps every lent place within the largest lending
pub record Capped (l : Lending) : Type 0 where
  pub records : l.records ≤ 8192
  pub lengths : l.lengths ≤ 17
  pub single : l.single ≤ 266240
  pub joint : l.joint ≤ 266240
