-- The worked example of document 01 as `rehearse` reads it: its case, and `bad input` where a byte lacks or remains. Assumes nothing.
use Rattle.std.specs.Prelude.{ℕ, ◌≡◌, refl, List, [], ◌∷◌, ◌++◌, pos, take, Some, None}
use Rattle.words.specs.Words.{number_at}
use Rattle.rules.specs.Worked.{program, turns}
use Rattle.cases.specs.Rows.{row, numbers_at, integers_at, sum}
use Rattle.cases.specs.Input.{layout_of, turn_count, fits, laid_out, case_at, parsed}

-- "Counts 1 and 0, input 7, budget 100", between the program and the turns
pub input : List ℕ
input = 29 ∷ 0 ∷ (program ++ (2 ∷ 1 ∷ 0 ∷ 0 ∷ 0 ∷ 7 ∷ 0 ∷ 0 ∷ 0 ∷ 100 ∷ 0 ∷ 0 ∷ 0 ∷ 10 ∷ 0 ∷ turns))

pub record Worked : Type 0 where
  pub good : parsed input ≡ Some (record { program = program; counts = 1 ∷ 0 ∷ []; inputs = pos 7 ∷ []; budget = 100; turns = turns })
  pub lacks : parsed (take 55 input) ≡ None
  pub lacks_all : parsed [] ≡ None
  pub remains : parsed (input ++ (0 ∷ [])) ≡ None

pub worked : Worked
unfolding number_at row numbers_at integers_at sum layout_of turn_count fits laid_out case_at parsed program input
worked = record { good = refl; lacks = refl; lacks_all = refl; remains = refl }
