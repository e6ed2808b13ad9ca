-- The tests eq and lt of two integers as the code makes them, and the operations by their numbers. Assumes nothing.
use mathlib.Core.Path.{◌≡◌, refl, sym, ap, ◌∙◌}
use mathlib.Core.Bool.{Bool, true, false}
use Prim.Native.Nat.{ℕ, zero, suc, ◌≤◌}
use native.Mathlib.Omega.{arith}
use lib.Dec.{eqb}
use lib.IntN.{ℤ, pos, negsuc, ◌-ℤ◌}
use lib.Signed.{lt_z}
use mir.Syntax.{w32}
use mir.Val.{SFits, to_z, of_z}
use borrow.Author.Tests.{le-ltb, eq-eqb, eqb-true, eqb-false}
use Rattle.numbers.specs.Integers.{reduced, same_integer, negative, flag, operate, operation_of}
use Rattle.numbers.specs.declared.integers.Operation.TheVariants.{Sub, Lt}
use Rattle.numbers.proofs.IntegerLaws.{no, no', read32}

-- ---- eq: two integers are the same where their bits are
same_self : (x : ℤ) → same_integer x x ≡ true
same_self (pos a) = eq-eqb a a refl
same_self (negsuc a) = eq-eqb a a refl

same_yes : (x y : ℤ) → same_integer x y ≡ true → x ≡ y
same_yes (pos a) (pos b) h = ap pos (eqb-true a b h)
same_yes (pos a) (negsuc b) h = no h
same_yes (negsuc a) (pos b) h = no h
same_yes (negsuc a) (negsuc b) h = ap negsuc (eqb-true a b h)

pub bits_same : (x y : ℤ) → SFits w32 x → SFits w32 y → of_z w32 x ≡ of_z w32 y → same_integer x y ≡ true
bits_same x y hx hy e =
    let q : x ≡ y = sym (read32 x hx) ∙ ap (to_z w32) e ∙ read32 y hy in
    rw q (same_self y)

pub bits_other : (x y : ℤ) → (of_z w32 x ≡ of_z w32 y → ⊥) → same_integer x y ≡ false
bits_other x y n = go (same_integer x y) refl
  where
    go : (t : Bool) → same_integer x y ≡ t → t ≡ false
    go true e = absurd (n (ap (of_z w32) (same_yes x y e)))
    go false e = refl

pub bits_eqb : (x y : ℤ) → SFits w32 x → SFits w32 y → eqb (of_z w32 x) (of_z w32 y) ≡ same_integer x y
bits_eqb x y hx hy = go (eqb (of_z w32 x) (of_z w32 y)) refl
  where
    go : (t : Bool) → eqb (of_z w32 x) (of_z w32 y) ≡ t → t ≡ same_integer x y
    go true e = sym (bits_same x y hx hy (eqb-true (of_z w32 x) (of_z w32 y) e))
    go false e = sym (bits_other x y (eqb-false (of_z w32 x) (of_z w32 y) e))

-- ---- lt: the sign of the reduced difference d
less_negative : (x : ℤ) (b : Bool) → lt_z x (pos 0) ≡ b → negative x ≡ b
less_negative (pos n) true h = no' (sym h ∙ le-ltb n 0 (omega arith))
less_negative (pos n) false h = refl
less_negative (negsuc n) b h = h

pub lt_operate : (x y : ℤ) → operate Lt x y ≡ flag (lt_z (operate Sub x y) (pos 0))
unfolding operate
lt_operate x y = ap (λ (t : Bool). flag t) (less_negative (reduced (x -ℤ y)) (lt_z (reduced (x -ℤ y)) (pos 0)) refl)

-- ---- the numbers above eq's are lt's, or no operation's
pub other_operation : (o : ℕ) → 4 ≤ o → Lt ≡ operation_of o
unfolding operation_of
other_operation zero h = absurd (omega arith)
other_operation (suc zero) h = absurd (omega arith)
other_operation (suc (suc zero)) h = absurd (omega arith)
other_operation (suc (suc (suc zero))) h = absurd (omega arith)
other_operation (suc (suc (suc (suc zero)))) h = refl
other_operation (suc (suc (suc (suc (suc k))))) h = refl
