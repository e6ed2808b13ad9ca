-- The nodes of a good program are in range, where the program is made of bytes. Assumes nothing.
use mathlib.Core.Path.{◌≡◌}
use mathlib.Core.List.{List}
use Prim.Native.Nat.{ℕ, zero, suc, ◌+◌, ◌*◌, ◌^◌, ◌<◌}
use native.Mathlib.Nat.{pow-suc}
use native.Mathlib.Decide.{dec_lt}
use native.Mathlib.Omega.{arith}
use lib.ListN.{length, get_or, drop, get_or-eq_default}
use Rattle.words.specs.Words.{number_at}
use Rattle.numbers.proofs.IntegerLaws.{signed_fits}
use Rattle.nodes.specs.Nodes.{node_of, node_in}
use Rattle.program.specs.Check.{Program, good, checked, node_at}
use Rattle.places.specs.Places.{place_of}
use Rattle.nodes.specs.RangeLaws.{every}
use Rattle.places.specs.GoodLaws.{good_program}
use Rattle.nodes.specs.declared.Node.TheVariants.{READ}
use Rattle.invariants.specs.InRange.{AllBytes, RangedNode}
use Rattle.invariants.proofs.EveryLaws.{every_at, every_drop}

-- ---- numbers

byte_fits : (bs : List ℕ) (i : ℕ) → AllBytes bs → get_or bs i 0 < 256
byte_fits bs i a = every_at (λ x. x < 256) bs i 0 a (omega arith)

-- k bytes make a number below 256^k
number_fits : (k : ℕ) (bs : List ℕ) (i : ℕ) → AllBytes bs → number_at k bs i < 256 ^ k
unfolding number_at
number_fits zero bs i a = omega arith
number_fits (suc k) bs i a =
    let p : 256 ^ suc k ≡ 256 ^ k * 256 = pow-suc 256 k in
    omega (arith, p, byte_fits bs i a, number_fits k bs (i + 1) a)

-- a node made of bytes
bytes_ranged : (k : ℕ) (b : List ℕ) → AllBytes b → RangedNode (node_of k b)
unfolding node_of
bytes_ranged k b a =
    let byte : (i : ℕ) → get_or b i 0 < 2 ^ 8 = λ i. byte_fits b i a in
    let two : (i : ℕ) → number_at 2 b i < 2 ^ 16 = λ i. number_fits 2 b i a in
    every (λ (j : ℕ). RangedNode (node_of j b)) 14
    (tt, (tt, (signed_fits (number_at 4 b 0) (number_fits 4 b 0 a), (tt, (tt, (tt, (tt, (tt, ((byte 0, two 1), (two 0, ((two 1, two 3), ((two 1, two 3), (two 2, (two 0, tt))))))))))))))
    (λ m. tt)
    k

-- ---- the nodes of a good program

-- whatever number is asked for
pub node_ranged : (bs : List ℕ) (p : Program) → AllBytes bs → checked bs ≡ good p → (e : ℕ) → RangedNode (node_at p e)
unfolding node_in
node_ranged bs p a q e =
    elim (dec_lt e (length p.nodes)) [
      | yes h ↦
          rw ((good_program bs p q).at_place e h) at
          (bytes_ranged (get_or bs (place_of bs e) 0) (drop (place_of bs e + 1) bs) (every_drop (λ x. x < 256) (place_of bs e + 1) bs a))
      | no h ↦ unfold node_at in rw (get_or-eq_default p.nodes READ {n = e} (omega arith)) tt
    ]
