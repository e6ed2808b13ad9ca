-- What both calls look at before they run: the check's answer, the counts, and whether enough was lent. Assumes nothing.
use mathlib.Core.Path.{◌≡◌, refl, ap}
use mathlib.Core.Bool.{true, false, ◌&&◌}
use mathlib.Core.List.{List}
use Prim.Native.Nat.{ℕ, ◌*◌, ◌/◌, ◌≤◌, ◌<◌}
use native.Mathlib.Omega.{arith}
use borrow.Author.Tests.{le-leb, lt-leb, eqb-true, eq-eqb}
use lib.Dec.{eqb}
use lib.ListN.{length}
use Rattle.limits.specs.Limits.{max_parties}
use Rattle.program.specs.Check.{Program, Checked, good, bad, checked, max_nodes}
use Rattle.program.specs.Answer.{accepted, refused, answer_of, check_answer}
use Rattle.places.specs.GoodLaws.{good_program}
use Rattle.program.specs.ScanLaws.{both}
use Rattle.records.specs.Events.{held_back}
use Rattle.refusals.specs.Numbers.{bad_program}
use Rattle.rules.specs.Lent.{Lent, area_size, room_of, sum, counts_fit, enough_lent}

-- ---- what the check's answer says of the program
pub record Accepted (bs : List ℕ) (n k : ℕ) : Type 0 where
  pub program : Program
  pub checks : checked bs ≡ good program
  pub parties : program.parties ≡ n
  pub nodes : length program.nodes ≡ k

pub accepted_is : (bs : List ℕ) (n k : ℕ) → check_answer bs ≡ accepted n k → Accepted bs n k
unfolding check_answer
accepted_is bs n k e = go (checked bs) refl e
  where
    go : (c : Checked) → checked bs ≡ c → answer_of c ≡ accepted n k → Accepted bs n k
    go (good p) q e = let a : p.parties ≡ n = cc in let b : length p.nodes ≡ k = cc in record { program = p; checks = q; parties = a; nodes = b }
    go (bad at) q e = absurd (let z : ◌≡◌ {A = ℕ} 0 1 = cc in omega arith)

pub record Bounds (n k : ℕ) : Type 0 where
  pub some_party : 1 ≤ n
  pub few_parties : n ≤ max_parties
  pub some_node : 1 ≤ k
  pub few_nodes : k ≤ max_nodes

pub bounds : (bs : List ℕ) (n k : ℕ) → check_answer bs ≡ accepted n k → Bounds n k
bounds bs n k e =
    let a = accepted_is bs n k e in
    let g = good_program bs a.program a.checks in
    record {
      some_party = omega (arith, a.parties, g.some_party);
      few_parties = omega (arith, a.parties, g.few_parties);
      some_node = omega (arith, a.nodes, g.some_node);
      few_nodes = omega (arith, a.nodes, g.few_nodes);
    }

pub refused_is : (bs : List ℕ) (place : ℕ) → check_answer bs ≡ refused bad_program place → checked bs ≡ bad place
unfolding check_answer
refused_is bs place e = go (checked bs) refl e
  where
    go : (c : Checked) → checked bs ≡ c → answer_of c ≡ refused bad_program place → c ≡ bad place
    go (good p) q e = absurd (let z : ◌≡◌ {A = ℕ} 0 1 = cc in omega arith)
    go (bad at) q e = let z : at ≡ place = cc in ap bad z

-- ---- whether enough was lent, by the code's tests
module _ (n areas : ℕ) (L : Lent) where
  pub short_room : length L.records / n < held_back → enough_lent n areas L ≡ false
  unfolding enough_lent room_of
  short_room h = rw (lt-leb held_back (length L.records / n) h)

  pub short_places : held_back ≤ length L.records / n → length L.lengths < n → enough_lent n areas L ≡ false
  unfolding enough_lent room_of
  short_places h l = rw (le-leb held_back (length L.records / n) h, lt-leb n (length L.lengths) l)

  pub short_work : held_back ≤ length L.records / n → n ≤ length L.lengths → length L.work < areas * area_size → enough_lent n areas L ≡ false
  unfolding enough_lent room_of
  short_work h l w = rw (le-leb held_back (length L.records / n) h, le-leb n (length L.lengths) l, lt-leb (areas * area_size) (length L.work) w)

  pub enough : held_back ≤ length L.records / n → n ≤ length L.lengths → areas * area_size ≤ length L.work → enough_lent n areas L ≡ true
  unfolding enough_lent room_of
  enough h l w = rw (le-leb held_back (length L.records / n) h, le-leb n (length L.lengths) l, le-leb (areas * area_size) (length L.work) w)

-- ---- whether the counts fit, by their parts
pub fit_parts : (a n s m : ℕ) → (eqb a n && eqb s m) ≡ true → (a ≡ n) × (s ≡ m)
fit_parts a n s m e = let (p, q) = both (eqb a n) (eqb s m) e in (eqb-true a n p, eqb-true s m q)

pub fit_whole : (n : ℕ) (L : Lent) → length L.counts ≡ n → sum L.counts ≡ length L.inputs → counts_fit n L ≡ true
unfolding counts_fit
fit_whole n L a s = rw (eq-eqb (length L.counts) n a, eq-eqb (sum L.counts) (length L.inputs) s)
