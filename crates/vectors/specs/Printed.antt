-- What is printed of a case, whole: of one with no whole head `bad input`, and else what `rehearse` prints under the lending that its head says. Assumes nothing.
use Rattle.std.specs.Prelude.{ℕ, cond, List, ltb, length, drop}
use Rattle.text.specs.Text.{ascii}
use Rattle.cases.specs.Lending.{lending_of}
use Rattle.rehearsal.specs.Both.{shown}

unfoldable pub case_printed : List ℕ → List ℕ
case_printed bs = cond (ltb (length bs) 13) (ascii "bad input\n") (shown (lending_of bs) (drop 13 bs))
