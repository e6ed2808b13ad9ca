-- Which of two lists begins the other, by the bytes that both have and their lengths, and the part that is handed back. Assumes nothing.
use mathlib.Core.Path.{◌≡◌, refl, sym, ap, subst, ◌∙◌}
use mathlib.Core.Bool.{Bool, true, false, cond}
use Rattle.std.proofs.Common.{arith, true≢false, eqb-true, None, Some}
use Rattle.std.specs.List.{slice_get}
use lib.Dec.{eqb}
use lib.Pointwise.{pointwise, bytes_decides}
use Rattle.std.proofs.lemmas.List.{take-append-drop}
use mathlib.Core.List.{List, [], ◌∷◌, ◌++◌}
use Prim.Native.Nat.{ℕ, ◌+◌, ◌-◌, ◌<◌, ◌≤◌, min}
use native.Mathlib.Nat.{le_of_eq, add_comm}
use denote.Ref.{Bor}
use lib.ListN.{length, take, drop, length-drop}
use lib.Seq.{take_all, take-append_seam, take-length}
use Rattle.order.specs.Order.{begins, order_of, beyond, continued, onward, placed, Continues}
use Rattle.order.specs.BeginsLaws.{begins_append, begins_rest, begins_le}
use Rattle.order.specs.declared.Order.{Order}
use Rattle.order.specs.declared.Order.TheVariants.{FirstLonger, SecondLonger, Equal, Neither}

-- xs begins ys where as many bytes of ys are xs
begun_by : (xs ys : List ℕ) → take (length xs) ys ≡ xs → begins xs ys ≡ true
begun_by xs ys e = subst (λ (l : List ℕ). begins xs l ≡ true) (ap (λ (l : List ℕ). l ++ drop (length xs) ys) (sym e) ∙ take-append-drop (length xs) ys) (begins_append xs (drop (length xs) ys))

-- and only there
taken : (xs ys : List ℕ) → begins xs ys ≡ true → take (length xs) ys ≡ xs
taken xs ys h = ap (take (length xs)) (begins_rest xs ys h) ∙ take-append_seam xs (drop (length xs) ys)

decided : (t : Bool) → (t ≡ true → ⊥) → t ≡ false
decided true f = absurd (f refl)
decided false f = refl

-- so not where ys has too few
short : (xs ys : List ℕ) → length ys < length xs → begins xs ys ≡ false
short xs ys l = decided (begins xs ys) (λ h. let m = begins_le xs ys h in omega (arith, l, m))

-- the bytes that both have, of which there are k
module _ (xs ys : List ℕ) (k : ℕ) (e : k ≡ min (length xs) (length ys)) where
  all_first : length xs ≤ length ys → k ≡ length xs
  all_first l = omega (arith, e)

  all_second : length ys ≤ length xs → k ≡ length ys
  all_second l = omega (arith, e)

  first_same : begins xs ys ≡ true → take k xs ≡ take k ys
  first_same h = let q = all_first (begins_le xs ys h) in
      ap (λ (n : ℕ). take n xs) q ∙ take-length xs ∙ sym (taken xs ys h) ∙ ap (λ (n : ℕ). take n ys) (sym q)

  second_same : begins ys xs ≡ true → take k xs ≡ take k ys
  second_same h = let q = all_second (begins_le ys xs h) in
      ap (λ (n : ℕ). take n xs) q ∙ taken ys xs h ∙ sym (take-length ys) ∙ ap (λ (n : ℕ). take n ys) (sym q)

  module _ (d : false ≡ pointwise eqb (take k xs) (take k ys)) where
    never : take k xs ≡ take k ys → ⊥
    never q = true≢false (sym ((bytes_decides (take k xs) (take k ys)).1 q) ∙ sym d)

    pub common_differ : Neither ≡ order_of xs ys
    unfolding order_of
    common_differ = rw (decided (begins ys xs) (λ h. never (second_same h)), decided (begins xs ys) (λ h. never (first_same h)))

  module _ (s : true ≡ pointwise eqb (take k xs) (take k ys)) where
    same : take k xs ≡ take k ys
    same = (bytes_decides (take k xs) (take k ys)).0 (sym s)

    first_begins : length xs ≤ length ys → begins xs ys ≡ true
    first_begins l = let q = all_first l in
        begun_by xs ys (ap (λ (n : ℕ). take n ys) (sym q) ∙ sym same ∙ ap (λ (n : ℕ). take n xs) q ∙ take-length xs)

    second_begins : length ys ≤ length xs → begins ys xs ≡ true
    second_begins l = let q = all_second l in
        begun_by ys xs (ap (λ (n : ℕ). take n xs) (sym q) ∙ same ∙ ap (λ (n : ℕ). take n ys) q ∙ take-length ys)

    pub common_first : length ys < length xs → FirstLonger ≡ order_of xs ys
    unfolding order_of
    common_first l = rw (second_begins (omega (arith, l)), short xs ys l)

    pub common_second : length xs < length ys → SecondLonger ≡ order_of xs ys
    unfolding order_of
    common_second l = rw (short ys xs l, first_begins (omega (arith, l)))

    pub common_both : length xs ≡ length ys → Equal ≡ order_of xs ys
    unfolding order_of
    common_both l = rw (second_begins (omega (arith, l)), first_begins (omega (arith, l)))

-- by the first byte of each, if there is one
pub neither_has_one : (xs ys : List ℕ) → None ≡ slice_get xs 0 → None ≡ slice_get ys 0 → Equal ≡ order_of xs ys
unfolding order_of begins
neither_has_one [] [] p q = refl
neither_has_one [] (y ∷ ys) p q = absurd (let z : ◌≡◌ {A = ℕ} 0 1 = cc in omega arith)
neither_has_one (x ∷ xs) ys p q = absurd (let z : ◌≡◌ {A = ℕ} 0 1 = cc in omega arith)

pub first_has_one : (xs ys : List ℕ) (x : ℕ) → Some x ≡ slice_get xs 0 → None ≡ slice_get ys 0 → FirstLonger ≡ order_of xs ys
unfolding order_of begins
first_has_one [] ys x p q = absurd (let z : ◌≡◌ {A = ℕ} 0 1 = cc in omega arith)
first_has_one (w ∷ xs) [] x p q = refl
first_has_one (w ∷ xs) (y ∷ ys) x p q = absurd (let z : ◌≡◌ {A = ℕ} 0 1 = cc in omega arith)

pub second_has_one : (xs ys : List ℕ) (y : ℕ) → None ≡ slice_get xs 0 → Some y ≡ slice_get ys 0 → SecondLonger ≡ order_of xs ys
unfolding order_of begins
second_has_one [] [] y p q = absurd (let z : ◌≡◌ {A = ℕ} 0 1 = cc in omega arith)
second_has_one [] (w ∷ ys) y p q = refl
second_has_one (x ∷ xs) ys y p q = absurd (let z : ◌≡◌ {A = ℕ} 0 1 = cc in omega arith)

pub others_first : (xs ys : List ℕ) (x y : ℕ) → Some x ≡ slice_get xs 0 → Some y ≡ slice_get ys 0 → (x ≡ y → ⊥) → Neither ≡ order_of xs ys
unfolding order_of begins
others_first [] ys x y p q e = absurd (let z : ◌≡◌ {A = ℕ} 0 1 = cc in omega arith)
others_first (v ∷ xs) [] x y p q e = absurd (let z : ◌≡◌ {A = ℕ} 0 1 = cc in omega arith)
others_first (v ∷ xs) (w ∷ ys) x y p q e =
    let i : x ≡ v = cc in
    let j : y ≡ w = cc in
    let f : eqb v w ≡ false = decided (eqb v w) (λ h. e (i ∙ eqb-true v w h ∙ sym j)) in
    let g : eqb w v ≡ false = decided (eqb w v) (λ h. e (i ∙ sym (eqb-true w v h) ∙ sym j)) in
    rw (g, f)

-- which of the two answers of `begins` an order tells
abbrev Begun : Order → Bool → Bool → Type 0
Begun FirstLonger f s = f ≡ true
Begun SecondLonger f s = s ≡ true
Begun Equal f s = Unit {0}
Begun Neither f s = Unit {0}

begun : (f s : Bool) → Begun (cond f (cond s Equal FirstLonger) (cond s SecondLonger Neither)) f s
begun true true = tt
begun true false = refl
begun false true = refl
begun false false = tt

module _ (xs ys : List ℕ) where
  order_begun : Begun (order_of xs ys) (begins ys xs) (begins xs ys)
  unfolding order_of
  order_begun = begun (begins ys xs) (begins xs ys)

  pub first_le : order_of xs ys ≡ FirstLonger → length ys ≤ length xs
  first_le h = begins_le ys xs (rw h at order_begun)

  pub second_le : order_of xs ys ≡ SecondLonger → length xs ≤ length ys
  second_le h = begins_le xs ys (rw h at order_begun)

  pub continued_is : (o : Order) → order_of xs ys ≡ o → beyond o xs ys ≡ continued xs ys
  unfolding continued
  continued_is o e = ap (λ (p : Order). beyond p xs ys) (sym e)

-- a part to the end is the list dropped
pub tail_is : (n : ℕ) (l : List ℕ) → take (length l - n) (drop n l) ≡ drop n l
tail_is n l = take_all (length l - n) (drop n l) (le_of_eq (length-drop n l))

-- the part from n on of the reference x, where the order is o, is what `Continues` asks
module _ (a b : Bor (List ℕ)) (o : Order) (eo : order_of a.now b.now ≡ o) where
  pub part_is : (x : Bor (List ℕ)) (n : ℕ) → drop n x.now ≡ beyond o a.now b.now → onward x.ref_ptr n ≡ placed o a b
      → Continues a b (record { ref_ptr = (x.ref_ptr.0, n + x.ref_ptr.1); now = take (length x.now - n) (drop n x.now) })
  part_is x n eb ep =
      record {
        bytes = tail_is n x.now ∙ eb ∙ continued_is a.now b.now o eo;
        place = ap (λ (k : ℕ). (x.ref_ptr.0, k)) (add_comm n x.ref_ptr.1) ∙ ep ∙ ap (λ (p : Order). placed p a b) (sym eo);
      }
