-- A name bound in level d of the bytes w, which leaves w': the levels below and the table of places stay.
use Rattle.std.specs.Prelude.{◌≡◌, List, ℕ, take}
use Rattle.limits.specs.declared.Name.{Name}
use Rattle.values.specs.declared.value.Value.{Value}
use Rattle.rules.specs.Names.{bind}
use Rattle.area.specs.Levels.{table_size, names_at, frames_of}

pub record Binds (x : Name) (v : Value) (d : ℕ) (w w' : List ℕ) : Type 0 where
  pub names : names_at w' d ≡ bind x v (names_at w d)
  pub frames : frames_of w' d ≡ frames_of w d
  pub table : take table_size w' ≡ take table_size w
