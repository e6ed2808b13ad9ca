-- How large the place of a refusal is at most: that of a bad program, and that of a bad turn. Assumes nothing.
use mathlib.Core.Path.{◌≡◌, refl}
use mathlib.Core.Bool.{Bool, true, false, ◌&&◌, cond}
use mathlib.Core.List.{List, [], ◌∷◌}
use mathlib.Core.Option.{Option, none, some}
use Prim.Native.Nat.{ℕ, zero, suc, ◌+◌, ◌-◌, ◌*◌, ◌≤◌}
use native.Mathlib.Omega.{arith}
use lib.Dec.{eqb, ltb, leb}
use lib.ListN.{length}
use borrow.Author.Tests.{ltb-true}
use Rattle.limits.specs.Limits.{max_parties}
use Rattle.nodes.specs.Nodes.{body_length, node_of}
use Rattle.program.specs.Check.{max_nodes, is_good, Placed, Scanned, put, scan, calls, bad_call, Program, Checked, unless_bad_call, verdict, checked}
use Rattle.program.specs.ScanLaws.{both, body_short, good_record}
use Rattle.rules.specs.Calls.{max_turns, bad_turn_from}

-- the first record takes 2 bytes, and a node at most 6
abbrev pub highest_bad_place : ℕ
highest_bad_place = 2 + 6 * max_nodes

-- ---- the places of a scan

AllNear : ℕ → List Placed → Type 0
AllNear b [] = Unit {0}
AllNear b (x ∷ xs) = (x.place ≤ b) × AllNear b xs

Near : ℕ → Scanned → Type 0
Near b (Scanned.nodes xs) = AllNear b xs
Near b (Scanned.bad place) = place ≤ b

put_near : (b : ℕ) (x : Placed) (s : Scanned) → x.place ≤ b → Near b s → Near b (put x s)
unfolding Near AllNear
put_near b x (Scanned.nodes xs) h k = (h, k)
put_near b x (Scanned.bad place) h k = k

scan_near : (n own place skip b : ℕ) (bs : List ℕ) → place + skip + 6 * (max_nodes - own) ≤ b → Near b (scan n own place skip bs)
unfolding scan Near AllNear
scan_near n own place skip b [] h = tt
scan_near n own place (suc skip) b (x ∷ bs) h = scan_near n own (place + 1) skip b bs (omega arith)
scan_near n own place zero b (kind ∷ bs) h = go (is_good n own kind bs) refl (scan_near n (own + 1) (place + 1) (body_length kind) b bs)
  where
    go : (t : Bool) → is_good n own kind bs ≡ t → (place + 1 + body_length kind + 6 * (max_nodes - (own + 1)) ≤ b → Near b (scan n (own + 1) (place + 1) (body_length kind) bs))
        → Near b (cond t (put (record { place = place; node = node_of kind bs }) (scan n (own + 1) (place + 1) (body_length kind) bs)) (Scanned.bad place))
    go true e f = put_near b (record { place = place; node = node_of kind bs }) (scan n (own + 1) (place + 1) (body_length kind) bs) (omega arith) (f (omega (arith, (good_record n own kind bs e).few, body_short kind)))
    go false e f = omega arith

-- a scan that finds no record had no byte
scan_none : (n own place : ℕ) (bs : List ℕ) → scan n own place 0 bs ≡ Scanned.nodes [] → length bs ≡ 0
unfolding scan
scan_none n own place [] e = refl
scan_none n own place (kind ∷ bs) e = go (is_good n own kind bs) (scan n (own + 1) (place + 1) (body_length kind) bs) e
  where
    go : (t : Bool) (s : Scanned) → cond t (put (record { place = place; node = node_of kind bs }) s) (Scanned.bad place) ≡ Scanned.nodes [] → suc (length bs) ≡ 0
    go true (Scanned.nodes xs) f = absurd (let z : ◌≡◌ {A = ℕ} 0 1 = cc in omega arith)
    go true (Scanned.bad q) f = absurd (let z : ◌≡◌ {A = ℕ} 0 1 = cc in omega arith)
    go false s f = absurd (let z : ◌≡◌ {A = ℕ} 0 1 = cc in omega arith)

-- ---- a bad program's place

call_near : (b k : ℕ) (xs : List Placed) (q : ℕ) → AllNear b xs → bad_call k xs ≡ some q → q ≤ b
unfolding bad_call AllNear
call_near b k [] q h e = absurd (let z : ◌≡◌ {A = ℕ} 0 1 = cc in omega arith)
call_near b k (x ∷ xs) q h e = go (calls k x.node) e (call_near b k xs q h.1)
  where
    go : (t : Bool) → cond t (bad_call k xs) (some x.place) ≡ some q → (bad_call k xs ≡ some q → q ≤ b) → q ≤ b
    go true f r = r f
    go false f r = let z : x.place ≡ q = cc in omega (arith, h.0)

verdict_near : (n total b : ℕ) (s : Scanned) (q : ℕ) → Near b s → (s ≡ Scanned.nodes [] → total ≤ b) → verdict n total s ≡ Checked.bad q → q ≤ b
unfolding verdict Near
verdict_near n total b (Scanned.bad place) q h k e = let z : place ≡ q = cc in omega arith
verdict_near n total b (Scanned.nodes []) q h k e = let z : total ≡ q = cc in omega (arith, k refl)
verdict_near n total b (Scanned.nodes (x ∷ xs)) q h k e = go (bad_call (length (x ∷ xs)) (x ∷ xs)) refl _ e
  where
    go : (o : Option ℕ) → bad_call (length (x ∷ xs)) (x ∷ xs) ≡ o → (p : Program) → unless_bad_call o p ≡ Checked.bad q → q ≤ b
    go none f p g = absurd (let z : ◌≡◌ {A = ℕ} 0 1 = cc in omega arith)
    go (some place) f p g = let z : place ≡ q = cc in rw z at (call_near b _ _ _ h f)

pub bad_near : (bs : List ℕ) (place : ℕ) → checked bs ≡ Checked.bad place → place ≤ highest_bad_place
unfolding checked
bad_near [] place e = let z : 0 ≡ place = cc in omega arith
bad_near (k ∷ []) place e = let z : 0 ≡ place = cc in omega arith
bad_near (k ∷ n ∷ bs) place e = go (eqb k 0 && leb 1 n && leb n max_parties) e
  where
    go : (t : Bool) → cond t (verdict n (2 + length bs) (scan n 0 2 0 bs)) (Checked.bad 0) ≡ Checked.bad place → place ≤ highest_bad_place
    go true f = verdict_near n (2 + length bs) highest_bad_place (scan n 0 2 0 bs) place (scan_near n 0 2 0 highest_bad_place bs (omega arith)) (λ q. omega (arith, scan_none n 0 2 bs q)) f
    go false f = let z : 0 ≡ place = cc in omega arith

-- ---- a bad turn's index

pub turn_near : (n i : ℕ) (ts : List ℕ) (k : ℕ) → i ≤ max_turns → bad_turn_from n i ts ≡ some k → k ≤ max_turns
unfolding bad_turn_from
turn_near n i [] k h e = absurd (let z : ◌≡◌ {A = ℕ} 0 1 = cc in omega arith)
turn_near n i (t ∷ ts) k h e = go (ltb t n && ltb i max_turns) refl e (turn_near n (i + 1) ts k)
  where
    go : (g : Bool) → ltb t n && ltb i max_turns ≡ g → cond g (bad_turn_from n (i + 1) ts) (some i) ≡ some k
        → (i + 1 ≤ max_turns → bad_turn_from n (i + 1) ts ≡ some k → k ≤ max_turns) → k ≤ max_turns
    go true q f r = r (omega (arith, ltb-true i max_turns (both (ltb t n) (ltb i max_turns) q).1)) f
    go false q f r = let z : i ≡ k = cc in omega arith
