-- A part of a list that was lent and comes back, and runs of stores that lie apart. Assumes nothing.
use mathlib.Core.Path.{◌≡◌, refl, sym, ap, ◌∙◌}
use mathlib.Core.List.{List, [], ◌∷◌, ◌++◌}
use Prim.Native.Nat.{ℕ, zero, suc, ◌+◌, ◌-◌, ◌≤◌, ◌<◌}
use native.Mathlib.Nat.{zero-add}
use native.Mathlib.Omega.{arith}
use lib.ListN.{length, take, drop, set, length-drop, length-set, take-append-drop}
use lib.Seq.{sets, set_comm, set-append_left, length-take-le}

-- ---- runs of stores that lie apart commute
set_sets : (vs w : List ℕ) (i q v : ℕ) → i < q → set (sets w q vs) i v ≡ sets (set w i v) q vs
set_sets [] w i q v h = refl
set_sets (u ∷ us) w i q v h = set_sets us (set w q u) i (suc q) v (omega arith) ∙ ap (λ (x : List ℕ). sets x (suc q) us) (set_comm w q i u v (omega arith))

pub sets_comm : (us vs w : List ℕ) (p q : ℕ) → p + length us ≤ q → sets (sets w q vs) p us ≡ sets (sets w p us) q vs
sets_comm [] vs w p q h = refl
sets_comm (u ∷ us) vs w p q h =
    ap (λ (x : List ℕ). sets x (suc p) us) (set_sets vs w p q u (omega arith)) ∙ sets_comm us vs (set w p u) (suc p) q (omega arith)

-- ---- stores in one of two lists that are joined
sets_left : (vs xs ys : List ℕ) (i : ℕ) → i + length vs ≤ length xs → sets (xs ++ ys) i vs ≡ sets xs i vs ++ ys
sets_left [] xs ys i h = refl
sets_left (v ∷ vs) xs ys i h =
    ap (λ (x : List ℕ). sets x (suc i) vs) (set-append_left xs ys i v (omega arith)) ∙ sets_left vs (set xs i v) ys (suc i) (rw length-set (omega arith))

sets_behind : (vs : List ℕ) (x : ℕ) (ys : List ℕ) (i : ℕ) → sets (x ∷ ys) (suc i) vs ≡ x ∷ sets ys i vs
sets_behind [] x ys i = refl
sets_behind (v ∷ vs) x ys i = sets_behind vs x (set ys i v) (suc i)

sets_right : (a : ℕ) (w vs : List ℕ) (i : ℕ) → a ≤ length w → take a w ++ sets (drop a w) i vs ≡ sets w (a + i) vs
sets_right zero w vs i h = rw zero-add
sets_right (suc a) [] vs i h = absurd (let z : suc a ≤ 0 = h in omega arith)
sets_right (suc a) (x ∷ w) vs i h =
    let e : suc a + i ≡ suc (a + i) = omega arith in
    rw e (ap (λ (l : List ℕ). x ∷ l) (sets_right a w vs i (omega arith)) ∙ sym (sets_behind vs x w (a + i)))

-- a part in which vs was stored at u
pub part_wrote : (a k u : ℕ) (w vs : List ℕ) → a + k ≤ length w → u + length vs ≤ k → take a w ++ (sets (take k (drop a w)) u vs ++ drop k (drop a w)) ≡ sets w (a + u) vs
part_wrote a k u w vs h l =
    let d : length (drop a w) ≡ length w - a = length-drop a w in
    let t : length (take k (drop a w)) ≡ k = length-take-le k (drop a w) (omega arith) in
    ap (λ (x : List ℕ). take a w ++ x) (sym (sets_left vs (take k (drop a w)) (drop k (drop a w)) u (omega arith)) ∙ ap (λ (x : List ℕ). sets x u vs) (take-append-drop k (drop a w)))
    ∙ sets_right a w vs u (omega arith)
