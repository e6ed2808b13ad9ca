-- One step of the scan, at a place of the program: what the record found there says of the records from there on. Assumes nothing.
use mathlib.Core.Path.{◌≡◌, refl, sym, ap}
use mathlib.Core.Bool.{Bool, true, false, cond}
use mathlib.Core.List.{List}
use Prim.Native.Nat.{ℕ, ◌+◌, ◌-◌, ◌≤◌, ◌<◌}
use native.Mathlib.Omega.{arith}
use lib.ListN.{length, get_or, drop, length-drop}
use Rattle.nodes.specs.Nodes.{body_length, node_in}
use Rattle.program.specs.Check.{is_good, Scanned, put}
use Rattle.program.specs.Records.{reach_of, found_at}
use Rattle.program.specs.ScanLaws.{good_record, body_short, placed, from, scan_here}
use Rattle.std.proofs.Common.{Option, Some, None}
use Rattle.std.proofs.lemmas.Option.{same_Some}
use Rattle.program.specs.declared.check.Found.{Found}

-- a good record, and then the next
pub record Stepped (p : List ℕ) (n own at next r : ℕ) : Type 0 where
  pub few : own < 1024
  pub onward : at < next
  pub near : next ≤ at + 6
  pub inside : next ≤ length p
  pub reach : r ≡ reach_of (node_in p at)
  pub step : from p n own at ≡ put (placed p at) (from p n (own + 1) next)

module _ (p : List ℕ) (n own at : ℕ) (h : at < length p) where
  pub scan_bad : found_at p n own at ≡ None → from p n own at ≡ Scanned.bad at
  unfolding found_at
  scan_bad e = go (is_good n own (get_or p at 0) (drop (at + 1) p)) _ (scan_here p n own at h) e
    where
      go : (t : Bool) (x : Scanned) → from p n own at ≡ cond t x (Scanned.bad at)
          → cond {A = Option Found} t (Some (record { next = at + 1 + body_length (get_or p at 0); reach = reach_of (node_in p at) })) None ≡ None → from p n own at ≡ Scanned.bad at
      go true x s f = absurd (let z : ◌≡◌ {A = ℕ} 0 1 = cc in omega arith)
      go false x s f = s

  pub scan_good : (next r : ℕ) → found_at p n own at ≡ Some (record { next = next; reach = r }) → Stepped p n own at next r
  unfolding found_at is_good
  scan_good next r e = go (is_good n own (get_or p at 0) (drop (at + 1) p)) refl (scan_here p n own at h) e
    where
      go : (t : Bool) → is_good n own (get_or p at 0) (drop (at + 1) p) ≡ t
          → from p n own at ≡ cond t (put (placed p at) (from p n (own + 1) (at + 1 + body_length (get_or p at 0)))) (Scanned.bad at)
          → cond {A = Option Found} t (Some (record { next = at + 1 + body_length (get_or p at 0); reach = reach_of (node_in p at) })) None ≡ Some (record { next = next; reach = r })
          → Stepped p n own at next r
      go false g s f = absurd (let z : ◌≡◌ {A = ℕ} 0 1 = cc in omega arith)
      go true g s f =
          let k = get_or p at 0 in
          let same = sym (same_Some _ _ f) in
          let q : next ≡ at + 1 + body_length k = ap (λ (x : Found). x.next) same in
          let b = good_record n own k (drop (at + 1) p) g in
          let l : body_length k ≤ length p - (at + 1) = simp length-drop at b.whole in
          record {
            few = b.few;
            onward = omega arith;
            near = omega (arith, body_short k);
            inside = omega arith;
            reach = ap (λ (x : Found). x.reach) same;
            step = rw q s;
          }
