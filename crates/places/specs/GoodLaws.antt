-- What the check sees to: in a good program every node fits, so no number in it that leads to a node leads out of it. Assumes nothing.
use Rattle.std.specs.Prelude.{◌≡◌, refl, Bool, true, false, ◌&&◌, cond, List, [], ◌∷◌, map, ℕ, zero, suc, ◌+◌, ◌-◌, ◌*◌, ◌≤◌, ◌<◌, eqb, ltb, leb, length, get_or}
use Rattle.std.proofs.Common.{sym, add-zero, zero-add, add-one, arith}
use Rattle.std.proofs.Math.Option.{Option, none, some}
use Rattle.std.proofs.lemmas.List.{length-map}
use Rattle.std.proofs.Math.ListN.{get_or-map}
use borrow.Author.Tests.{ltb-true, leb-true}
use Rattle.words.specs.Words.{number_at}
use Rattle.parties.specs.Sets.{within}
use Rattle.limits.specs.declared.Name.{Name}
use Rattle.parties.specs.declared.sets.PartySet.{PartySet}
use Rattle.nodes.specs.Nodes.{is_node_kind, body_length, node_in}
use Rattle.program.specs.Kinds.{rule_of, body_of}
use Rattle.program.specs.Check.{is_name, fits, Placed, Scanned, scan, calls, bad_call, Program, Checked, unless_bad_call, verdict, checked, node_at}
use Rattle.places.specs.Places.{length_of, next_at, place_of, Tabled}
use Rattle.program.specs.ScanLaws.{both, body_short, after, from, scan_next}
use Rattle.nodes.specs.declared.Node.TheVariants.{READ, LET, CASE, PAR, CALL}
use Rattle.std.proofs.Common.{Some, None}
use Rattle.program.specs.declared.kinds.Rule.{Rule}

-- ---- places

next_is : (p : List ℕ) (at : ℕ) → is_node_kind (get_or p at 0) ≡ true → next_at p at ≡ after p at
unfolding next_at body_of
next_is p at e = rw e

pub length_short : (k : ℕ) → length_of (body_of k) ≤ 5
unfolding body_of
length_short k = go (is_node_kind k)
  where
    go : (t : Bool) → length_of (let b : ℕ × Rule = (body_length k, rule_of k) in cond t (Some b) None) ≤ 5
    go true = body_short k
    go false = omega arith

pub place_near : (p : List ℕ) (k : ℕ) → place_of p k ≤ 2 + 6 * k
unfolding place_of next_at
place_near p zero = omega arith
place_near p (suc k) = omega (arith, place_near p k, length_short (get_or p (place_of p k) 0))

-- ---- the records of a scan without a bad one

abbrev nowhere : Placed
nowhere = record { place = 0; node = READ }

pub record Fine (p : List ℕ) (n own : ℕ) (x : Placed) : Type 0 where
  pub few : own < 1024
  pub fit : fits n own x.node ≡ true
  pub is : node_in p (place_of p own) ≡ x.node

pub scan_fine : (p : List ℕ) (n own at : ℕ) (xs : List Placed) → at ≡ place_of p own → from p n own at ≡ Scanned.nodes xs
    → (i : ℕ) → i < length xs → Fine p n (own + i) (get_or xs i nowhere)
unfolding place_of node_in
scan_fine p n own at [] q e i l = absurd (omega arith)
scan_fine p n own at (x ∷ xs) q e zero l =
    let s = scan_next p n own at x xs e in
    rw (add-zero own, s.this) (record { few = s.good.few; fit = s.good.fit; is = rw q })
scan_fine p n own at (x ∷ xs) q e (suc i) l =
    let s = scan_next p n own at x xs e in
    let f : own + 1 + i ≡ own + suc i = omega arith in
    let t : after p at ≡ place_of p (own + 1) = rw (add-one own, ← q) (sym (next_is p at s.good.known)) in
    rw f at (scan_fine p n (own + 1) (after p at) xs t s.left i (omega arith))

calls_all : (k : ℕ) (xs : List Placed) → bad_call k xs ≡ none → (i : ℕ) → i < length xs → calls k (get_or xs i nowhere).node ≡ true
unfolding bad_call
calls_all k [] e i l = absurd (omega arith)
calls_all k (x ∷ xs) e i l = go (calls k x.node) refl e i l (calls_all k xs)
  where
    go : (t : Bool) → calls k x.node ≡ t → cond t (bad_call k xs) (some x.place) ≡ none → (j : ℕ) → j < suc (length xs)
        → (bad_call k xs ≡ none → (i : ℕ) → i < length xs → calls k (get_or xs i nowhere).node ≡ true) → calls k (get_or (x ∷ xs) j nowhere).node ≡ true
    go true q f zero h r = q
    go true q f (suc j) h r = r f j (omega arith)
    go false q f j h r = absurd (let z : ◌≡◌ {A = ℕ} 0 1 = cc in omega arith)

-- ---- a good program

pub record Good (bs : List ℕ) (p : Program) : Type 0 where
  pub some_party : 1 ≤ p.parties
  pub few_parties : p.parties ≤ 16
  pub some_node : 1 ≤ length p.nodes
  pub few_nodes : length p.nodes ≤ 1024
  pub fit : (k : ℕ) → k < length p.nodes → fits p.parties k (node_at p k) ≡ true
  pub called : (k : ℕ) → k < length p.nodes → calls (length p.nodes) (node_at p k) ≡ true
  pub at_place : (k : ℕ) → k < length p.nodes → node_in bs (place_of bs k) ≡ node_at p k

abbrev noded : (n : ℕ) → List Placed → Program
noded n xs = record { parties = n; nodes = map (λ (y : Placed). y.node) xs }

node_is : (n : ℕ) (xs : List Placed) (k : ℕ) → node_at (noded n xs) k ≡ (get_or xs k nowhere).node
unfolding node_at
node_is n xs k = get_or-map (λ (y : Placed). y.node) xs k nowhere

good_nodes : (bs : List ℕ) (n : ℕ) (xs : List Placed) → 1 ≤ n → n ≤ 16 → 1 ≤ length xs → from bs n 0 2 ≡ Scanned.nodes xs → bad_call (length xs) xs ≡ none → Good bs (noded n xs)
unfolding place_of
good_nodes bs n xs a b c e f =
    let m : length (map (λ (y : Placed). y.node) xs) ≡ length xs = length-map xs (λ (y : Placed). y.node) in
    let fine = scan_fine bs n 0 2 xs refl e in
    record {
      some_party = a;
      few_parties = b;
      some_node = rw m c;
      few_nodes = rw m (omega (arith, (fine (length xs - 1) (omega arith)).few));
      fit = λ k h. rw (node_is n xs k) (simp zero-add at (fine k (rw m at h)).fit);
      called = λ k h. rw (node_is n xs k, m) (calls_all (length xs) xs f k (rw m at h));
      at_place = λ k h. rw (node_is n xs k) (simp zero-add at (fine k (rw m at h)).is);
    }

good_verdict : (bs : List ℕ) (n total : ℕ) (p : Program) → 1 ≤ n → n ≤ 16 → (s : Scanned) → from bs n 0 2 ≡ s → verdict n total s ≡ Checked.good p → Good bs p
unfolding verdict
good_verdict bs n total p a b (Scanned.bad place) e f = absurd (let z : ◌≡◌ {A = ℕ} 0 1 = cc in omega arith)
good_verdict bs n total p a b (Scanned.nodes []) e f = absurd (let z : ◌≡◌ {A = ℕ} 0 1 = cc in omega arith)
good_verdict bs n total p a b (Scanned.nodes (x ∷ xs)) e f = go (bad_call (length (x ∷ xs)) (x ∷ xs)) refl f
  where
    go : (o : Option ℕ) → bad_call (length (x ∷ xs)) (x ∷ xs) ≡ o → unless_bad_call o (noded n (x ∷ xs)) ≡ Checked.good p → Good bs p
    go none q g = let r : noded n (x ∷ xs) ≡ p = cc in rw r at (good_nodes bs n (x ∷ xs) a b (omega arith) e q)
    go (some place) q g = absurd (let z : ◌≡◌ {A = ℕ} 0 1 = cc in omega arith)

pub good_program : (bs : List ℕ) (p : Program) → checked bs ≡ Checked.good p → Good bs p
unfolding checked
good_program [] p e = absurd (let z : ◌≡◌ {A = ℕ} 0 1 = cc in omega arith)
good_program (k ∷ []) p e = absurd (let z : ◌≡◌ {A = ℕ} 0 1 = cc in omega arith)
good_program (k ∷ n ∷ bs) p e = go (eqb k 0 && leb 1 n && leb n 16) refl e
  where
    go : (t : Bool) → eqb k 0 && leb 1 n && leb n 16 ≡ t → cond t (verdict n (2 + length bs) (scan n 0 2 0 bs)) (Checked.bad 0) ≡ Checked.good p → Good (k ∷ n ∷ bs) p
    go true q f =
        let b = both (eqb k 0 && leb 1 n) (leb n 16) q in
        let a = both (eqb k 0) (leb 1 n) b.0 in
        good_verdict (k ∷ n ∷ bs) n (2 + length bs) p (leb-true 1 n a.1) (leb-true n 16 b.1) (scan n 0 2 0 bs) refl f
    go false q f = absurd (let z : ◌≡◌ {A = ℕ} 0 1 = cc in omega arith)

-- ---- where its numbers lead

module _ {bs : List ℕ} {p : Program} (g : Good bs p) (k : ℕ) (h : k < length p.nodes) where
  parts : (x : Name) (e1 e2 : ℕ) → is_name x && ltb e1 k && ltb e2 k ≡ true → (e1 < k) × (e2 < k)
  parts x e1 e2 f =
      let b = both (is_name x && ltb e1 k) (ltb e2 k) f in
      (ltb-true e1 k (both (is_name x) (ltb e1 k) b.0).1, ltb-true e2 k b.1)

  pub let_parts : (x : Name) (e1 e2 : ℕ) → node_at p k ≡ LET x e1 e2 → (e1 < k) × (e2 < k)
  unfolding fits
  let_parts x e1 e2 q = parts x e1 e2 (rw q at (g.fit k h))

  pub case_parts : (x : Name) (e1 e2 : ℕ) → node_at p k ≡ CASE x e1 e2 → (e1 < k) × (e2 < k)
  unfolding fits
  case_parts x e1 e2 q = parts x e1 e2 (rw q at (g.fit k h))

  pub par_part : (q : PartySet) (e : ℕ) → node_at p k ≡ PAR q e → e < k
  unfolding fits
  par_part q e f = ltb-true e k (both (within p.parties q) (ltb e k) (rw f at (g.fit k h))).1

  pub call_target : (f : ℕ) (x : Name) → node_at p k ≡ CALL f x → f < length p.nodes
  call_target f x q = ltb-true f (length p.nodes) (rw q at (g.called k h))

-- ---- the table of places

-- a node is read where the table has its place
pub indexed : (bs : List ℕ) (p : Program) → checked bs ≡ Checked.good p → (before after : List ℕ) → Tabled bs (length p.nodes) before after
    → (k : ℕ) → k < length p.nodes → node_in bs (number_at 2 after (2 * k)) ≡ node_at p k
indexed bs p e before after t k h = rw (t.places k h) ((good_program bs p e).at_place k h)
