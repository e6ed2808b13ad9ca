-- The check's walk over the records: what is left, scanned from here, is what was asked for. Assumes nothing.
use mathlib.Core.Path.{◌≡◌, refl, sym, ap, ◌∙◌}
use mathlib.Core.Bool.{Bool, true, false, ◌&&◌, cond}
use mathlib.Core.List.{List, [], ◌∷◌, ◌++◌, map}
use mathlib.Core.Option.{Option, none, some}
use Prim.Native.Nat.{ℕ, suc, ◌+◌, ◌*◌, ◌≤◌, ◌<◌, max}
use native.Mathlib.Numerals.{add-one}
use native.Mathlib.Decide.{dec_lt}
use native.Mathlib.Omega.{arith}
use lib.Dec.{eqb, leb, leb-zero}
use lib.ListN.{length, length-append, length-map}
use borrow.Author.Tests.{le-leb, lt-leb, leb-true}
use Rattle.refusals.specs.Numbers.{bad_program}
use Rattle.program.specs.Check.{Placed, Scanned, put, scan, calls, bad_call, Checked, unless_bad_call, verdict, checked}
use Rattle.program.specs.Answer.{CheckAnswer, accepted, refused, answer_of, check_answer}
use Rattle.program.specs.Records.{reach_of, found_at, parties_in, scanned, AllGood}
use Rattle.nodes.specs.declared.Node.{Node}
use Rattle.nodes.specs.declared.Node.TheVariants.{VAR, INT, OP, MUX, READ, WRITE, EMBED, SHARE, REVEAL, LET, CASE, PAR, CALL}
use Rattle.std.proofs.Common.{Some, None, true≢false}
use Rattle.std.proofs.lemmas.Option.{none-some, cond_some}
use Rattle.program.specs.ScanLaws.{placed, from, scan_end}
use Rattle.program.proofs.ScanSteps.{scan_bad, scan_good}

-- ---- the first record

pub parties_bad : (p : List ℕ) → parties_in p ≡ None → checked p ≡ Checked.bad 0
unfolding parties_in checked
parties_bad [] e = refl
parties_bad (k ∷ []) e = refl
parties_bad (k ∷ n ∷ bs) e = go (eqb k 0 && leb 1 n && leb n 16) e (verdict n (2 + length bs) (scan n 0 2 0 bs))
  where
    go : (t : Bool) → cond t (Some n) None ≡ None → (v : Checked) → cond t v (Checked.bad 0) ≡ Checked.bad 0
    go true f v = absurd (none-some n (sym f))
    go false f v = refl

pub parties_good : (p : List ℕ) (n : ℕ) → parties_in p ≡ Some n → (checked p ≡ verdict n (length p) (scanned p n)) × (n ≤ 16)
unfolding parties_in checked
parties_good [] n e = absurd (none-some n e)
parties_good (k ∷ []) n e = absurd (go (eqb k 0) (cond_some (eqb k 0 && leb 1 0 && leb 0 16) 0 n e).0)
  where
    go : (a : Bool) → (a && leb 1 0 && leb 0 16) ≡ true → ⊥
    go true f = true≢false (sym f)
    go false f = true≢false (sym f)
parties_good (k ∷ m ∷ bs) n e =
    let q = cond_some (eqb k 0 && leb 1 m && leb m 16) m n e in
    let l : 2 + length bs ≡ suc (suc (length bs)) = omega arith in
    (rw (q.0, q.1, l), go (eqb k 0) (leb 1 m) (leb m 16) refl q.0)
  where
    go : (a b c : Bool) → leb m 16 ≡ c → (a && b && c) ≡ true → n ≤ 16
    go true true true r f = rw (← (cond_some (eqb k 0 && leb 1 m && leb m 16) m n e).1) (leb-true m 16 r)
    go true true false r f = absurd (true≢false (sym f))
    go true false c r f = absurd (true≢false (sym f))
    go false b c r f = absurd (true≢false (sym f))

module _ (p : List ℕ) where
  pub answer_none : parties_in p ≡ None → refused bad_program 0 ≡ check_answer p
  unfolding check_answer
  answer_none e = sym (ap answer_of (parties_bad p e))

  module _ (n : ℕ) (e : parties_in p ≡ Some n) where
    pub answer_is : (a : CheckAnswer) → answer_of (verdict n (length p) (scanned p n)) ≡ a → a ≡ check_answer p
    unfolding check_answer
    answer_is a f = sym (ap answer_of (parties_good p n e).0 ∙ f)

    pub answer_bad : (place : ℕ) → verdict n (length p) (scanned p n) ≡ Checked.bad place → refused bad_program place ≡ check_answer p
    answer_bad place f = answer_is (refused bad_program place) (ap answer_of f)

-- ---- the CALLs

pub calls_reach : (k : ℕ) (e : Node) → calls k e ≡ leb (reach_of e) k
unfolding reach_of
calls_reach k (CALL f x) = rw (add-one f)
calls_reach k (VAR x) = sym (leb-zero k)
calls_reach k (INT i) = sym (leb-zero k)
calls_reach k (OP o x y) = sym (leb-zero k)
calls_reach k (MUX x y z) = sym (leb-zero k)
calls_reach k READ = sym (leb-zero k)
calls_reach k (WRITE x) = sym (leb-zero k)
calls_reach k (EMBED x) = sym (leb-zero k)
calls_reach k (SHARE a q x) = sym (leb-zero k)
calls_reach k (REVEAL q x) = sym (leb-zero k)
calls_reach k (LET x e1 e2) = sym (leb-zero k)
calls_reach k (CASE x e1 e2) = sym (leb-zero k)
calls_reach k (PAR p e) = sym (leb-zero k)

pub call_found : (k : ℕ) (x : Placed) (xs : List Placed) → reach_of x.node ≤ k → bad_call k (x ∷ xs) ≡ bad_call k xs
unfolding bad_call
call_found k x xs h = rw (calls_reach k x.node, le-leb (reach_of x.node) k h)

pub call_lost : (k : ℕ) (x : Placed) (xs : List Placed) → k < reach_of x.node → bad_call k (x ∷ xs) ≡ some x.place
unfolding bad_call
call_lost k x xs h = rw (calls_reach k x.node, lt-leb (reach_of x.node) k h)

calls_append : (k : ℕ) (xs ys : List Placed) → bad_call k xs ≡ none → bad_call k (xs ++ ys) ≡ bad_call k ys
unfolding bad_call
calls_append k [] ys e = refl
calls_append k (x ∷ xs) ys e = go (calls k x.node) e (calls_append k xs ys)
  where
    go : (t : Bool) → cond t (bad_call k xs) (some x.place) ≡ none → (bad_call k xs ≡ none → bad_call k (xs ++ ys) ≡ bad_call k ys)
        → cond t (bad_call k (xs ++ ys)) (some x.place) ≡ bad_call k ys
    go true f r = r f
    go false f r = absurd (let z : ◌≡◌ {A = ℕ} 0 1 = cc in omega arith)

calls_first : (k : ℕ) (xs ys : List Placed) → bad_call k (xs ++ ys) ≡ none → bad_call k xs ≡ none
unfolding bad_call
calls_first k [] ys e = refl
calls_first k (x ∷ xs) ys e = go (calls k x.node) e (calls_first k xs ys)
  where
    go : (t : Bool) → cond t (bad_call k (xs ++ ys)) (some x.place) ≡ none → (bad_call k (xs ++ ys) ≡ none → bad_call k xs ≡ none)
        → cond t (bad_call k xs) (some x.place) ≡ none
    go true f r = r f
    go false f r = f

-- ---- the verdict

pub verdict_lost : (n total k place : ℕ) (xs : List Placed) → length xs ≡ k → bad_call k xs ≡ some place → verdict n total (Scanned.nodes xs) ≡ Checked.bad place
unfolding verdict bad_call
verdict_lost n total k place [] l e = absurd (let z : ◌≡◌ {A = ℕ} 0 1 = cc in omega arith)
verdict_lost n total k place (x ∷ xs) l e =
    ap (λ (o : Option ℕ). unless_bad_call o (record { parties = n; nodes = map (λ (y : Placed). y.node) (x ∷ xs) })) (ap (λ (j : ℕ). bad_call j (x ∷ xs)) l ∙ e)

pub verdict_good : (n total k : ℕ) (xs : List Placed) → length xs ≡ k → 0 < k → bad_call k xs ≡ none
    → answer_of (verdict n total (Scanned.nodes xs)) ≡ accepted n k
unfolding verdict
verdict_good n total k [] l h e = absurd (omega arith)
verdict_good n total k (x ∷ xs) l h e =
    ap (λ (o : Option ℕ). answer_of (unless_bad_call o (record { parties = n; nodes = map (λ (y : Placed). y.node) (x ∷ xs) }))) (ap (λ (j : ℕ). bad_call j (x ∷ xs)) l ∙ e)
    ∙ ap (λ (j : ℕ). accepted n j) (length-map (x ∷ xs) (λ (y : Placed). y.node) ∙ l)

-- ---- nodes passed, before those that are left

abbrev pub prepended : List Placed → Scanned → Scanned
prepended [] s = s
prepended (x ∷ xs) s = put x (prepended xs s)

prepended_all : (xs : List Placed) → prepended xs (Scanned.nodes []) ≡ Scanned.nodes xs
prepended_all [] = refl
prepended_all (x ∷ xs) = rw (prepended_all xs)

prepended_bad : (xs : List Placed) (place : ℕ) → prepended xs (Scanned.bad place) ≡ Scanned.bad place
prepended_bad [] place = refl
prepended_bad (x ∷ xs) place = rw (prepended_bad xs place)

prepended_more : (xs : List Placed) (x : Placed) (s : Scanned) → prepended xs (put x s) ≡ prepended (xs ++ (x ∷ [])) s
prepended_more [] x s = refl
prepended_more (y ∷ xs) x s = rw (prepended_more xs x s)

pub record Going (p : List ℕ) (n own at reach : ℕ) : Type 0 where
  pub seen : List Placed
  pub left : scanned p n ≡ prepended seen (from p n own at)
  pub count : length seen ≡ own
  pub covers : (k : ℕ) → reach ≤ k → bad_call k seen ≡ none
  pub misses : (k : ℕ) → k < reach → bad_call k seen ≡ none → ⊥
  pub near : at ≤ 2 + 6 * own
  pub few : own ≤ 1024

pub going_start : (p : List ℕ) (n : ℕ) → Going p n 0 2 0
unfolding bad_call
going_start p n = record { seen = []; left = refl; count = refl; covers = λ k h. refl; misses = λ k h. absurd (omega arith); near = omega arith; few = omega arith }

module _ (p : List ℕ) (n own at reach : ℕ) (g : Going p n own at reach) where
  module _ (h : at < length p) where
    pub going_bad : found_at p n own at ≡ None → verdict n (length p) (scanned p n) ≡ Checked.bad at
    unfolding verdict
    going_bad e = rw (g.left, scan_bad p n own at h e, prepended_bad g.seen at)

    pub going_on : (next r : ℕ) → found_at p n own at ≡ Some (record { next = next; reach = r }) → Going p n (own + 1) next (max reach r)
    unfolding bad_call
    going_on next r e =
        let s = scan_good p n own at h next r e in
        let x = placed p at in
        record {
          seen = g.seen ++ (x ∷ []);
          left = g.left ∙ ap (λ (t : Scanned). prepended g.seen t) s.step ∙ prepended_more g.seen x (from p n (own + 1) next);
          count = length-append g.seen (x ∷ []) ∙ omega (arith, g.count);
          covers = λ k l. calls_append k g.seen (x ∷ []) (g.covers k (omega arith)) ∙ call_found k x [] (omega (arith, s.reach));
          misses = λ k l z. elim (dec_lt k reach) [
            | yes b ↦ g.misses k b (calls_first k g.seen (x ∷ []) z)
            | no b ↦
                let q : bad_call k (x ∷ []) ≡ none = sym (calls_append k g.seen (x ∷ []) (g.covers k (omega arith))) ∙ z in
                let o = call_lost k x [] (omega (arith, s.reach)) in
                let y : ◌≡◌ {A = ℕ} 0 1 = cc in omega arith
          ];
          near = omega (arith, s.near, g.near);
          few = omega (arith, s.few);
        }

  module _ (h : length p ≤ at) where
    all_seen : scanned p n ≡ Scanned.nodes g.seen
    all_seen = g.left ∙ ap (λ (t : Scanned). prepended g.seen t) (scan_end p n own at h) ∙ prepended_all g.seen

    pub going_none : own ≡ 0 → verdict n (length p) (scanned p n) ≡ Checked.bad (length p)
    unfolding verdict
    going_none z = rw all_seen (go g.seen (g.count ∙ z))
      where
        go : (xs : List Placed) → length xs ≡ 0 → verdict n (length p) (Scanned.nodes xs) ≡ Checked.bad (length p)
        go [] e = refl
        go (x ∷ xs) e = absurd (omega arith)

    pub going_good : 0 < own → reach ≤ own → answer_of (verdict n (length p) (scanned p n)) ≡ accepted n own
    going_good z l = rw all_seen (verdict_good n (length p) own g.seen g.count z (g.covers own l))

    pub going_lost : own < reach → AllGood p n own
    going_lost l = record { all = g.seen; are = all_seen; many = g.count; lost = g.misses own l }
