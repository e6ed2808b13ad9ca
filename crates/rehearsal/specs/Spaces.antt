-- What the functions that print a run are given: places enough for all that is lent and printed. Assumes nothing.
use Rattle.std.specs.Prelude.{◌≡◌, ℕ, ◌+◌, ◌*◌, ◌≤◌, List, ℤ, length, replicate}
use Rattle.cases.specs.Lending.{Capped}
use Rattle.cases.specs.declared.lending.Lending.{Lending}
use Rattle.cases.specs.declared.layout.Layout.{Layout}
use Rattle.text.specs.Text.{Puts}
use Rattle.printing.specs.Shown.{most_of_one}

-- what is lent to a run is filled
pub record Filled (rs ls w rs' ls' w' : List ℕ) : Type 0 where
  pub records : rs' ≡ replicate (length rs) 0xaa
  pub lengths : ls' ≡ replicate (length ls) 7
  pub work : w' ≡ replicate (length w) 0x55

-- the places hold what a lending lends, and the output the lines of both runs
pub record Holds (l : Lending) (rs ls w out : List ℕ) (at : ℕ) : Type 0 where
  pub capped : Capped l
  pub records : l.records ≤ length rs
  pub lengths : l.lengths ≤ length ls
  pub single : l.single ≤ length w
  pub joint : l.joint ≤ length w
  pub room : at + 2 * most_of_one ≤ length out

-- the records and the length places are those that are lent, and no more
pub record Exact (l : Lending) (rs ls : List ℕ) : Type 0 where
  pub records : length rs ≡ l.records
  pub lengths : length ls ≡ l.lengths

-- the places of the counts and the inputs are as many as an input has
pub record Rows (l : Layout) (cs : List ℕ) (is : List ℤ) : Type 0 where
  pub counts : length cs ≡ l.k
  pub inputs : length is ≡ l.total

-- a text is put, of at most so many bytes
pub record PutsAtMost (most : ℕ) (text : List ℕ) (at r : ℕ) (out out' : List ℕ) : Type 0 where
  pub puts : Puts text at r out out'
  pub short : r ≤ at + most
