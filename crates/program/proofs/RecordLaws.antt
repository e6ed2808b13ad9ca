-- A record at its place: what each way out of `record_at` says, and what a record found good tells. Assumes nothing.
use mathlib.Core.Path.{◌≡◌, refl, sym, ap, ◌∙◌}
use mathlib.Core.Bool.{Bool, true, false, cond}
use mathlib.Core.List.{List}
use Prim.Native.Nat.{ℕ, ◌+◌, ◌-◌, ◌≤◌, ◌<◌}
use native.Mathlib.Nat.{add-zero}
use native.Mathlib.Omega.{arith}
use lib.ListN.{length, get_or, drop, length-drop}
use borrow.Author.Tests.{lt-ltb, le-ltb, le-leb, lt-leb, eq-eqb, ne_eqb}
use Rattle.words.specs.Words.{number_at}
use Rattle.nodes.specs.Nodes.{is_node_kind, body_length, node_of, node_in}
use Rattle.program.specs.Kinds.{rule_of, body_of}
use Rattle.program.specs.Check.{fits, is_good}
use Rattle.program.specs.Records.{rule_fits, reach_of, found_at, parties_in}
use Rattle.program.specs.declared.kinds.Rule.{Rule}
use Rattle.std.proofs.Common.{Option, Some, None}
use Rattle.std.proofs.lemmas.Option.{some_pair_parts}
use Rattle.nodes.specs.RangeLaws.{every}
use Rattle.program.proofs.FieldLaws.{rule_fits_lem}
use Rattle.nodes.proofs.ReadLaws.{number_drop}

-- ---- the kind

pub record Known (k l : ℕ) (r : Rule) : Type 0 where
  pub kind : is_node_kind k ≡ true
  pub long : body_length k ≡ l
  pub rule : rule_of k ≡ r

pub known : (k l : ℕ) (r : Rule) → body_of k ≡ Some (l, r) → Known k l r
unfolding body_of
known k l r e = go (is_node_kind k) refl e
  where
    go : (t : Bool) → is_node_kind k ≡ t → cond {A = Option (ℕ × Rule)} t (Some (body_length k, rule_of k)) None ≡ Some (l, r) → Known k l r
    go true q f = let same = some_pair_parts _ _ _ _ f in record { kind = q; long = same.0; rule = same.1 }
    go false q f = absurd (let z : ◌≡◌ {A = ℕ} 0 1 = cc in omega arith)

pub unknown : (k : ℕ) → body_of k ≡ None → is_node_kind k ≡ false
unfolding body_of
unknown k e = go (is_node_kind k) refl e
  where
    go : (t : Bool) → is_node_kind k ≡ t → cond {A = Option (ℕ × Rule)} t (Some (body_length k, rule_of k)) None ≡ None → is_node_kind k ≡ false
    go true q f = absurd (let z : ◌≡◌ {A = ℕ} 0 1 = cc in omega arith)
    go false q f = q

-- what the body of the kind at a place was found to be
pub body_at : (p : List ℕ) (at : ℕ) {k : ℕ} {b x : Option (ℕ × Rule)} → k ≡ get_or p at 0 → b ≡ body_of k → b ≡ x → body_of (get_or p at 0) ≡ x
body_at p at e f g = ap body_of (sym e) ∙ sym f ∙ g

-- ---- the record

module _ (p : List ℕ) (n own at : ℕ) where
  pub found_full : 1024 ≤ own → None ≡ found_at p n own at
  unfolding found_at is_good
  found_full h = rw (le-ltb own 1024 h)

  module _ (h : own < 1024) where
    pub found_unknown : body_of (get_or p at 0) ≡ None → None ≡ found_at p n own at
    unfolding found_at is_good
    found_unknown e = rw (lt-ltb own 1024 h, unknown (get_or p at 0) e)

    module _ (l : ℕ) (r : Rule) (e : body_of (get_or p at 0) ≡ Some (l, r)) where
      pub found_cut : length p - at - 1 < l → None ≡ found_at p n own at
      unfolding found_at is_good
      found_cut c =
          let k = known (get_or p at 0) l r e in
          let s : length (drop (at + 1) p) < l = simp length-drop (omega arith) in
          rw (lt-ltb own 1024 h, k.kind, k.long, lt-leb l (length (drop (at + 1) p)) s)

      module _ (c : l ≤ length p - at - 1) (f : Bool) (g : f ≡ rule_fits r (drop (at + 1) p) n own) where
        fields : fits n own (node_of (get_or p at 0) (drop (at + 1) p)) ≡ f
        fields =
            let k = known (get_or p at 0) l r e in
            sym (rule_fits_lem (get_or p at 0) (drop (at + 1) p) n own) ∙ ap (λ (s : Rule). rule_fits s (drop (at + 1) p) n own) k.rule ∙ sym g

        pub found_misfit : f ≡ false → None ≡ found_at p n own at
        unfolding found_at is_good
        found_misfit b =
            let k = known (get_or p at 0) l r e in
            let s : l ≤ length (drop (at + 1) p) = simp length-drop (omega arith) in
            rw (lt-ltb own 1024 h, k.kind, k.long, le-leb l (length (drop (at + 1) p)) s, fields, b)

        pub found_good : f ≡ true → (reach : ℕ) → reach ≡ reach_of (node_in p at) → Some (record { next = at + 1 + l; reach = reach }) ≡ found_at p n own at
        unfolding found_at is_good
        found_good b reach q =
            let k = known (get_or p at 0) l r e in
            let s : l ≤ length (drop (at + 1) p) = simp length-drop (omega arith) in
            rw (lt-ltb own 1024 h, k.kind, k.long, le-leb l (length (drop (at + 1) p)) s, fields, b, q)

-- ---- the reach

pub reach_call : (p : List ℕ) (at f : ℕ) {k : ℕ} → k ≡ get_or p at 0 → k ≡ 13 → f ≡ number_at 2 p (at + 1) → f + 1 ≡ reach_of (node_in p at)
unfolding reach_of node_in node_of
reach_call p at f e d q = rw (q, ← e, d) (simp (number_drop, add-zero))

pub reach_other : (p : List ℕ) (at : ℕ) {k : ℕ} → k ≡ get_or p at 0 → (k ≡ 13 → ⊥) → 0 ≡ reach_of (node_in p at)
unfolding reach_of node_in node_of
reach_other p at {k} e d =
    rw (← e)
    (every (λ (j : ℕ). (j ≡ 13 → ⊥) → 0 ≡ reach_of (node_of j (drop (at + 1) p))) 14
    (λ n. refl, (λ n. refl, (λ n. refl, (λ n. refl, (λ n. refl, (λ n. refl, (λ n. refl, (λ n. refl, (λ n. refl, (λ n. refl, (λ n. refl, (λ n. refl, (λ n. refl, (λ n. absurd (n refl), tt))))))))))))))
    (λ m n. refl)
    k
    d)

-- ---- the first record

module _ (p : List ℕ) where
  pub no_parties : {k : ℕ} → k ≡ get_or p 0 0 → (k ≡ 0 → ⊥) → None ≡ parties_in p
  unfolding parties_in
  no_parties {k} e d = rw (← e, ne_eqb k 0 d)

  pub too_few : {k n : ℕ} → k ≡ get_or p 0 0 → k ≡ 0 → n ≡ get_or p 1 0 → n ≡ 0 → None ≡ parties_in p
  unfolding parties_in
  too_few {k} {n} e z f l = rw (← e, ← f, eq-eqb k 0 z, l)

  pub too_many : {k n : ℕ} → k ≡ get_or p 0 0 → k ≡ 0 → n ≡ get_or p 1 0 → 16 < n → None ≡ parties_in p
  unfolding parties_in
  too_many {k} {n} e z f l = rw (← e, ← f, eq-eqb k 0 z, le-leb 1 n (omega arith), lt-leb n 16 l)

  pub parties_are : {k n : ℕ} → k ≡ get_or p 0 0 → k ≡ 0 → n ≡ get_or p 1 0 → (n ≡ 0 → ⊥) → n ≤ 16 → Some n ≡ parties_in p
  unfolding parties_in
  parties_are {k} {n} e z f d l = rw (← e, ← f, eq-eqb k 0 z, le-leb 1 n (omega arith), le-leb n 16 l)
