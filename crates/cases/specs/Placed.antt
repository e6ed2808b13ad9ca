-- What a caller knows of a good input's places: each lies within the bytes, and what stands there is what is read.
use Rattle.std.specs.Prelude.{◌≡◌, List, ℕ, ◌+◌, ◌*◌, ◌≤◌, length, Some}
use Rattle.cases.specs.Input.{max_input, turn_count, case_at, parsed}
use Rattle.cases.specs.declared.layout.Layout.{Layout}

pub record Placed (bs : List ℕ) (l : Layout) : Type 0 where
  pub few : length bs ≤ max_input
  -- the program is from 2 to `end`
  pub starts : 2 ≤ l.end
  pub program : l.end ≤ length bs
  pub few_counts : l.k ≤ 255
  pub counts : l.counts + 2 * l.k ≤ length bs
  pub few_inputs : l.total ≤ 2048
  pub inputs : l.inputs + 4 * l.total ≤ length bs
  pub budget : l.budget + 4 ≤ length bs
  pub turns : l.turns + turn_count l bs ≡ length bs
  pub case : parsed bs ≡ Some (case_at bs l)
