-- What a head lends is at most what any case lends. Assumes nothing.
use mathlib.Core.Path.{◌≡◌, refl}
use mathlib.Core.Bool.{Bool, true, false, cond}
use mathlib.Core.List.{List}
use Prim.Native.Nat.{ℕ, ◌≤◌}
use native.Mathlib.Omega.{arith}
use lib.Dec.{ltb}
use lib.ListN.{get_or}
use borrow.Author.Tests.{ltb-true}
use Rattle.words.specs.Words.{number_at}
use Rattle.cases.specs.Lending.{up_to, lending_of, Capped}
use Rattle.cases.specs.declared.lending.Lending.{Lending}

up_to_most : (most n : ℕ) → up_to most n ≤ most
up_to_most most n = go (ltb n most) refl
  where
    go : (t : Bool) → ltb n most ≡ t → cond t n most ≤ most
    go true e = omega (arith, ltb-true n most e)
    go false e = omega arith

pub capped : (bs : List ℕ) (r : Lending) → r ≡ lending_of bs → Capped r
unfolding lending_of
capped bs r e =
    rw e
    (record {
      records = up_to_most 8192 (number_at 4 bs 0);
      lengths = up_to_most 17 (get_or bs 4 0);
      single = up_to_most 266240 (number_at 4 bs 5);
      joint = up_to_most 266240 (number_at 4 bs 9);
    })
