-- Who makes up a mode, and an integer that is tested against 0. Assumes nothing.
use mathlib.Core.Path.{◌≡◌, ◌∙◌}
use mathlib.Core.Bool.{true, false, false≢true}
use Prim.Native.Nat.{ℕ, ◌<◌}
use native.Mathlib.Decide.{dec_lt}
use native.Mathlib.Omega.{arith}
use lib.IntN.{ℤ, pos}
use mir.Syntax.{w32}
use mir.Val.{SFits, of_z}
use Rattle.numbers.specs.Integers.{same_integer}
use Rattle.numbers.proofs.OperationLaws.{bits_same, bits_other}
use Rattle.parties.specs.Sets.{make_up}
use Rattle.parties.specs.declared.sets.PartySet.{PartySet}
use Rattle.parties.proofs.BitLaws.{none_made}

-- who makes up a mode is one of its sixteen parties
pub maker_below : (a : ℕ) (q m : PartySet) → m.bits < 65536 → make_up a q m ≡ true → a < 16
maker_below a q m h e =
    elim (dec_lt a 16) [
      | yes l ↦ l
      | no l ↦ absurd (false≢true (none_made a q m h (omega arith) ∙ e))
    ]

-- an integer that is tested against 0
pub is_zero : (i : ℤ) → SFits w32 i → of_z w32 i ≡ 0 → same_integer i (pos 0) ≡ true
is_zero i h e = bits_same i (pos 0) h (record { sfits = omega arith }) e

pub not_zero : (i : ℤ) → (of_z w32 i ≡ 0 → ⊥) → same_integer i (pos 0) ≡ false
not_zero i n = bits_other i (pos 0) n
