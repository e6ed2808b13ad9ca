-- One list begins another.
use Rattle.std.specs.Prelude.{◌≡◌, List, ◌++◌}

pub record Begins {A : Type 0} (xs zs : List A) : Type 0 where
  pub rest : List A
  pub is : xs ++ rest ≡ zs
