-- "At most 8,192 record bytes, 17 length places and 266,240 working bytes are lent": there are so many, and room for what is printed of a case. Assumes nothing.
use Rattle.std.specs.Prelude.{ℕ, ◌≤◌, List, length}

pub record Spaces (rs ls w out : List ℕ) : Type 0 where
  pub records : 8192 ≤ length rs
  pub lengths : 17 ≤ length ls
  pub work : 266240 ≤ length w
  pub room : 65536 ≤ length out
