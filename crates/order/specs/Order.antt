-- "Given two records of one site, the continuation is what the longer has beyond the shorter" (document 01, "Site records").
use Rattle.std.specs.Prelude.{ℕ, ◌+◌, ◌≡◌, Bool, true, false, cond, List, [], ◌∷◌, eqb, length, drop}
use Rattle.std.specs.Borrow.{Bor}
use Rattle.order.specs.declared.Order.{Order}
use Rattle.order.specs.declared.Order.TheVariants.{FirstLonger, SecondLonger, Equal, Neither}

-- xs stands at the start of ys
unfoldable pub begins : List ℕ → List ℕ → Bool
begins [] ys = true
begins (x ∷ xs) [] = false
begins (x ∷ xs) (y ∷ ys) = cond (eqb x y) (begins xs ys) false

-- "Which case holds is an answer by itself: first longer, second longer, equal or "neither"."
unfoldable pub order_of : List ℕ → List ℕ → Order
order_of xs ys = cond (begins ys xs) (cond (begins xs ys) Equal FirstLonger) (cond (begins xs ys) SecondLonger Neither)

-- "empty if they are equal (the second one's end), and empty at that same end if neither begins the other"
abbrev pub beyond : Order → List ℕ → List ℕ → List ℕ
beyond FirstLonger xs ys = drop (length ys) xs
beyond SecondLonger xs ys = drop (length xs) ys
beyond Equal xs ys = drop (length ys) ys
beyond Neither xs ys = drop (length ys) ys

unfoldable pub continued : List ℕ → List ℕ → List ℕ
continued xs ys = beyond (order_of xs ys) xs ys

-- where in memory that part starts: a place is a block and an offset into it
abbrev pub onward : ℕ × ℕ → ℕ → ℕ × ℕ
onward p n = (p.0, p.1 + n)

abbrev pub placed : Order → Bor (List ℕ) → Bor (List ℕ) → ℕ × ℕ
placed FirstLonger a b = onward a.ref_ptr (length b.now)
placed SecondLonger a b = onward b.ref_ptr (length a.now)
placed Equal a b = onward b.ref_ptr (length b.now)
placed Neither a b = onward b.ref_ptr (length b.now)

-- "handed back as that part of the lent bytes": these bytes, at this place
pub record Continues (a b r : Bor (List ℕ)) : Type 0 where
  pub bytes : r.now ≡ continued a.now b.now
  pub place : r.ref_ptr ≡ placed (order_of a.now b.now) a b
