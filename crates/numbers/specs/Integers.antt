-- Integers of 32 bits (document 01, "Rules of one step": OP). In source document 001 they have no bounds.
use Rattle.std.specs.Prelude.{ℕ, ◌-◌, ◌%◌, ◌^◌, Bool, true, false, cond, ltb, eqb, [], ◌∷◌, get_or, ℤ, pos, negsuc, ◌+ℤ◌, ◌-ℤ◌, ◌*ℤ◌}
use Rattle.numbers.specs.declared.integers.Operation.{Operation}
use Rattle.numbers.specs.declared.integers.Operation.TheVariants.{Add, Sub, Mul, Eq, Lt}

-- z modulo 2^32; of an integer of 32 bits, its two's complement
abbrev pub residue : ℤ → ℕ
residue (pos n) = n % 2 ^ 32
residue (negsuc n) = 2 ^ 32 - 1 - n % 2 ^ 32

-- the integer from -2147483648 to 2147483647 that n stands for in two's complement
abbrev pub signed : ℕ → ℤ
signed n = cond (ltb n (2 ^ 31)) (pos n) (pos n -ℤ pos (2 ^ 32))

-- "reduced modulo 2^32 into -2147483648 to 2147483647"
unfoldable pub reduced : ℤ → ℤ
reduced z = signed (residue z)

abbrev pub negative : ℤ → Bool
negative (pos n) = false
negative (negsuc n) = true

abbrev pub same_integer : ℤ → ℤ → Bool
same_integer (pos a) (pos b) = eqb a b
same_integer (pos a) (negsuc b) = false
same_integer (negsuc a) (pos b) = false
same_integer (negsuc a) (negsuc b) = eqb a b

-- 1 where a test holds, else 0
abbrev pub flag : Bool → ℤ
flag t = cond t (pos 1) (pos 0)

-- "add, sub, mul are reduced .. eq is 1 or 0. lt is 1 where the reduced x−y is negative, else 0."
unfoldable pub operate : Operation → ℤ → ℤ → ℤ
operate Add x y = reduced (x +ℤ y)
operate Sub x y = reduced (x -ℤ y)
operate Mul x y = reduced (x *ℤ y)
operate Eq x y = flag (same_integer x y)
operate Lt x y = flag (negative (reduced (x -ℤ y)))

-- "o: 0 add, 1 sub, 2 mul, 3 eq, 4 lt" (document 01, "Program bytes")
unfoldable pub operation_of : ℕ → Operation
operation_of o = get_or (Add ∷ Sub ∷ Mul ∷ Eq ∷ Lt ∷ []) o Lt
