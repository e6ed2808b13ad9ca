-- The second walk, to the first CALL whose node is none of the program's. Assumes nothing.
use mathlib.Core.Path.{◌≡◌, sym, ap, ◌∙◌}
use mathlib.Core.List.{List, []}
use mathlib.Core.Option.{none, some}
use Prim.Native.Nat.{ℕ, ◌+◌, ◌*◌, ◌≤◌, ◌<◌}
use native.Mathlib.Omega.{arith}
use lib.ListN.{length}
use Rattle.program.specs.Check.{Placed, Scanned, bad_call, verdict}
use Rattle.program.specs.Records.{found_at, AllGood, LostAt}
use Rattle.std.proofs.Common.{Some, None}
use Rattle.program.specs.ScanLaws.{placed, from, scan_end, split}
use Rattle.program.proofs.ScanSteps.{scan_bad, scan_good}
use Rattle.program.proofs.CheckLaws.{call_found, call_lost, verdict_lost}

-- the records from here on are good, and the first lost CALL is among them
pub record Seeking (p : List ℕ) (n k own at : ℕ) : Type 0 where
  pub ahead : List Placed
  pub left : from p n own at ≡ Scanned.nodes ahead
  pub first : (place : ℕ) → bad_call k ahead ≡ some place → LostAt p n place
  pub lost : bad_call k ahead ≡ none → ⊥
  pub near : at ≤ 2 + 6 * own
  pub few : own ≤ 1024

pub seeking_start : (p : List ℕ) (n k : ℕ) → AllGood p n k → Seeking p n k 0 2
seeking_start p n k g = record {
  ahead = g.all;
  left = g.are;
  first = λ place e. ap (λ (s : Scanned). verdict n (length p) s) g.are ∙ verdict_lost n (length p) k place g.all g.many e;
  lost = g.lost;
  near = omega arith;
  few = omega arith;
}

module _ (p : List ℕ) (n k own at : ℕ) (g : Seeking p n k own at) where
  pub seeking_end : length p ≤ at → ⊥
  unfolding bad_call
  seeking_end h =
      let e : Scanned.nodes [] ≡ Scanned.nodes g.ahead = sym (scan_end p n own at h) ∙ g.left in
      let f : g.ahead ≡ [] = cc in
      g.lost (ap (λ (xs : List Placed). bad_call k xs) f)

  module _ (h : at < length p) where
    pub seeking_bad : found_at p n own at ≡ None → ⊥
    seeking_bad e =
        let f : Scanned.bad at ≡ Scanned.nodes g.ahead = sym (scan_bad p n own at h e) ∙ g.left in
        let z : ◌≡◌ {A = ℕ} 0 1 = cc in omega arith

    module _ (next r : ℕ) (e : found_at p n own at ≡ Some (record { next = next; reach = r })) where
      pub seeking_here : k < r → LostAt p n at
      seeking_here l =
          let s = scan_good p n own at h next r e in
          let d = split (placed p at) (from p n (own + 1) next) g.ahead (sym s.step ∙ g.left) in
          g.first at (ap (λ (xs : List Placed). bad_call k xs) d.all ∙ call_lost k (placed p at) d.rest (omega (arith, s.reach)))

      pub seeking_on : r ≤ k → Seeking p n k (own + 1) next
      seeking_on l =
          let s = scan_good p n own at h next r e in
          let d = split (placed p at) (from p n (own + 1) next) g.ahead (sym s.step ∙ g.left) in
          let same : bad_call k g.ahead ≡ bad_call k d.rest = ap (λ (xs : List Placed). bad_call k xs) d.all ∙ call_found k (placed p at) d.rest (omega (arith, s.reach)) in
          record {
            ahead = d.rest;
            left = d.left;
            first = λ place q. g.first place (same ∙ q);
            lost = λ q. g.lost (same ∙ q);
            near = omega (arith, s.near, g.near);
            few = omega (arith, s.few);
          }
