-- The fields of a body: what the constructors' answers tell, and that a kind's rule is its node's `fits`. Assumes nothing.
use mathlib.Core.Path.{◌≡◌, refl}
use mathlib.Core.Bool.{Bool, true, false, ◌&&◌, cond}
use mathlib.Core.List.{List}
use Prim.Native.Nat.{ℕ, ◌≤◌}
use native.Mathlib.Decide.{dec_lt}
use native.Mathlib.Omega.{arith}
use lib.Dec.{ltb}
use borrow.Author.Tests.{lt-ltb, le-ltb}
use Rattle.std.proofs.Common.{Some, None, is_some}
use Rattle.nodes.specs.Nodes.{node_of}
use Rattle.program.specs.Kinds.{rule_of}
use Rattle.program.specs.Check.{fits}
use Rattle.program.specs.Records.{rule_fits}
use Rattle.nodes.specs.RangeLaws.{every}

-- what is made where a test holds, is made if it does
pub made_where : {A : Type 0} (t : Bool) (x : A) → is_some (cond t (Some x) None) ≡ t
made_where true x = refl
made_where false x = refl

-- below n, where n itself is below a limit
pub both_limits : (i n m : ℕ) → n ≤ m → ltb i n && ltb i m ≡ ltb i n
both_limits i n m h =
    elim (dec_lt i n) [
      | yes l ↦ rw (lt-ltb i n l, lt-ltb i m (omega arith))
      | no l ↦ rw (le-ltb i n (omega arith))
    ]

-- a kind's rule tests what its node has to fit
pub rule_fits_lem : (k : ℕ) (b : List ℕ) (n own : ℕ) → rule_fits (rule_of k) b n own ≡ fits n own (node_of k b)
unfolding rule_fits rule_of fits node_of
rule_fits_lem k b n own =
    every (λ (j : ℕ). rule_fits (rule_of j) b n own ≡ fits n own (node_of j b)) 14
    (refl, (refl, (refl, (refl, (refl, (refl, (refl, (refl, (refl, (refl, (refl, (refl, (refl, (refl, tt))))))))))))))
    (λ m. refl)
    k
