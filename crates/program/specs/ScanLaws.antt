-- The equations of `scan` that a reader expects, said of the records from a place of the program on. Assumes nothing.
use Rattle.std.specs.Prelude.{◌≡◌, refl, Bool, true, false, ◌&&◌, cond, List, [], ◌∷◌, ℕ, zero, suc, ◌+◌, ◌≤◌, ◌<◌, ltb, leb, length, get_or, drop}
use Rattle.std.proofs.Common.{sym, ap, ◌∙◌, add-zero, add-one, arith, drop_of_length-le, drop-cons, drop-drop, ltb-true, leb-true}
use Rattle.std.proofs.Math.Decide.{dec_lt}
use Rattle.nodes.specs.Nodes.{is_node_kind, body_length, node_of, node_in}
use Rattle.program.specs.Check.{fits, is_good, Placed, Scanned, put, scan}
use Rattle.nodes.specs.RangeLaws.{every}

-- ---- one record

pub both : (a b : Bool) → a && b ≡ true → (a ≡ true) × (b ≡ true)
both true b e = (refl, e)
both false b e = absurd (let z : ◌≡◌ {A = ℕ} 0 1 = cc in omega arith)

pub record GoodRecord (n own kind : ℕ) (b : List ℕ) : Type 0 where
  pub few : own < 1024
  pub known : is_node_kind kind ≡ true
  pub whole : body_length kind ≤ length b
  pub fit : fits n own (node_of kind b) ≡ true

pub good_record : (n own kind : ℕ) (b : List ℕ) → is_good n own kind b ≡ true → GoodRecord n own kind b
unfolding is_good
good_record n own kind b e =
    let d = both (ltb own 1024 && is_node_kind kind && leb (body_length kind) (length b)) (fits n own (node_of kind b)) e in
    let c = both (ltb own 1024 && is_node_kind kind) (leb (body_length kind) (length b)) d.0 in
    let a = both (ltb own 1024) (is_node_kind kind) c.0 in
    record { few = ltb-true own 1024 a.0; known = a.1; whole = leb-true (body_length kind) (length b) c.1; fit = d.1 }

pub body_short : (k : ℕ) → body_length k ≤ 5
unfolding body_length
body_short k =
    leb-true (body_length k) 5
    (every (λ (j : ℕ). leb (body_length j) 5 ≡ true) 14
    (refl, (refl, (refl, (refl, (refl, (refl, (refl, (refl, (refl, (refl, (refl, (refl, (refl, (refl, tt))))))))))))))
    (λ m. refl)
    k)

-- ---- bytes of a body to pass are bytes passed

pub scan_skip : (n own place skip : ℕ) (bs : List ℕ) → scan n own place skip bs ≡ scan n own (place + skip) 0 (drop skip bs)
unfolding scan
scan_skip n own place zero bs = rw (add-zero place)
scan_skip n own place (suc skip) [] = refl
scan_skip n own place (suc skip) (b ∷ bs) =
    let e : place + 1 + skip ≡ place + suc skip = omega arith in
    scan_skip n own (place + 1) skip bs ∙ ap (λ (i : ℕ). scan n own i 0 (drop skip bs)) e

-- ---- the records from a place on

-- the record at a place; where the next one starts; the records from a place on
abbrev pub placed : List ℕ → ℕ → Placed
placed p at = record { place = at; node = node_in p at }

abbrev pub after : List ℕ → ℕ → ℕ
after p at = at + 1 + body_length (get_or p at 0)

abbrev pub from : List ℕ → (n own at : ℕ) → Scanned
from p n own at = scan n own at 0 (drop at p)

pub scan_end : (p : List ℕ) (n own at : ℕ) → length p ≤ at → from p n own at ≡ Scanned.nodes []
unfolding scan
scan_end p n own at h = rw (drop_of_length-le p {i = at} h)

pub scan_here : (p : List ℕ) (n own at : ℕ) → at < length p
    → from p n own at ≡ cond (is_good n own (get_or p at 0) (drop (at + 1) p)) (put (placed p at) (from p n (own + 1) (after p at))) (Scanned.bad at)
unfolding scan node_in
scan_here p n own at h =
    let k = get_or p at 0 in
    let bs = drop (at + 1) p in
    let d : drop at p ≡ k ∷ bs = drop-cons p at 0 h ∙ rw (add-one at) in
    let s : scan n (own + 1) (at + 1) (body_length k) bs ≡ from p n (own + 1) (after p at) =
    scan_skip n (own + 1) (at + 1) (body_length k) bs ∙ ap (λ (xs : List ℕ). scan n (own + 1) (after p at) 0 xs) (drop-drop (body_length k) (at + 1) p) in
    ap (λ (xs : List ℕ). scan n own at 0 xs) d
    ∙ ap (λ (t : Scanned). cond (is_good n own k bs) (put (record { place = at; node = node_of k bs }) t) (Scanned.bad at)) s

-- what is put before good records stands before them
pub record Split (x : Placed) (s : Scanned) (ys : List Placed) : Type 0 where
  pub rest : List Placed
  pub left : s ≡ Scanned.nodes rest
  pub all : ys ≡ x ∷ rest

pub split : (x : Placed) (s : Scanned) (ys : List Placed) → put x s ≡ Scanned.nodes ys → Split x s ys
split x (Scanned.nodes zs) ys e = record { rest = zs; left = refl; all = cc }
split x (Scanned.bad place) ys e = absurd (let z : ◌≡◌ {A = ℕ} 0 1 = cc in omega arith)

-- the first of some good records, and those after it
pub record Next (p : List ℕ) (n own at : ℕ) (x : Placed) (xs : List Placed) : Type 0 where
  pub this : x ≡ placed p at
  pub good : GoodRecord n own (get_or p at 0) (drop (at + 1) p)
  pub left : from p n (own + 1) (after p at) ≡ Scanned.nodes xs

pub scan_next : (p : List ℕ) (n own at : ℕ) (x : Placed) (xs : List Placed) → from p n own at ≡ Scanned.nodes (x ∷ xs) → Next p n own at x xs
scan_next p n own at x xs e =
    elim (dec_lt at (length p)) [
      | yes h ↦ go (is_good n own (get_or p at 0) (drop (at + 1) p)) refl (sym (scan_here p n own at h) ∙ e)
      | no h ↦ absurd (let f = scan_end p n own at (omega arith) in let z : ◌≡◌ {A = ℕ} 0 1 = cc in omega arith)
    ]
  where
    go : (t : Bool) → is_good n own (get_or p at 0) (drop (at + 1) p) ≡ t
        → cond t (put (placed p at) (from p n (own + 1) (after p at))) (Scanned.bad at) ≡ Scanned.nodes (x ∷ xs) → Next p n own at x xs
    go true g f =
        let s = split (placed p at) (from p n (own + 1) (after p at)) (x ∷ xs) f in
        let a = s.all in
        let l = s.left in
        record { this = cc; good = good_record n own (get_or p at 0) (drop (at + 1) p) g; left = cc }
    go false g f = absurd (let z : ◌≡◌ {A = ℕ} 0 1 = cc in omega arith)
