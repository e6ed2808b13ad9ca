-- One party's write in its part of the lent bytes, and what the parties write. Assumes nothing.
use mathlib.Core.Path.{◌≡◌, refl, sym, ap, ◌∙◌}
use mathlib.Core.Bool.{Bool, true, false, cond}
use mathlib.Core.List.{List, [], ◌∷◌, ◌++◌}
use Prim.Native.Nat.{ℕ, ◌+◌, ◌-◌, ◌*◌, ◌≤◌, ◌<◌}
use native.Mathlib.Nat.{add-zero}
use native.Mathlib.Omega.{arith}
use lib.Dec.{leb}
use lib.ListN.{length, get_or, take, drop, set, length-drop}
use lib.Seq.{sets, set-get_or, length-take-le}
use borrow.Author.Tests.{leb-true, leb-false, le-leb, lt-leb}
use Rattle.parties.specs.Sets.{member}
use Rattle.parties.specs.declared.sets.PartySet.{PartySet}
use Rattle.values.specs.Values.{slice}
use Rattle.values.specs.declared.value.Value.{Value}
use Rattle.records.specs.Events.{event_bytes, written, finished, held_back}
use Rattle.records.specs.EventLaws.{finished_length}
use Rattle.records.specs.Append.{Closes}
use Rattle.records.specs.declared.events.Event.{Event}
use Rattle.invariants.proofs.BookLaws.{written_one}
use Rattle.ledger.specs.Writes.{Writes, chosen, finishing}
use Rattle.ledger.proofs.PartLaws.{part_wrote}

-- ---- what is written
-- the members of s write, each what is chosen for it
unfoldable pub noting : (s those : PartySet) (e other : Event) → (P u : ℕ) → List Event
noting s those e other P u = cond (member P s) (chosen those e other P ∷ []) []

module _ (s those : PartySet) (e other : Event) (P u : ℕ) where
  pub noting_none : member P s ≡ false → written (noting s those e other P u) ≡ []
  unfolding noting written
  noting_none h = rw h

  pub noting_one : member P s ≡ true → written (noting s those e other P u) ≡ event_bytes (chosen those e other P)
  unfolding noting
  noting_one h = rw h (written_one (chosen those e other P))

module _ (R : ℕ) (v : Value) (P u : ℕ) where
  pub finishing_none : R < u + held_back → written (finishing R v P u) ≡ []
  unfolding finishing written
  finishing_none h = rw (lt-leb (u + held_back) R h)

  pub finishing_one : u + held_back ≤ R → written (finishing R v P u) ≡ event_bytes (finished (slice P v))
  unfolding finishing
  finishing_one h = rw (le-leb (u + held_back) R h) (written_one (finished (slice P v)))

-- ---- the write
-- party P wrote nothing
pub untouched : (R P : ℕ) (vs xs ls : List ℕ) → vs ≡ [] → Writes R P vs xs ls xs ls
untouched R P vs xs ls e = rw e (record { bytes = refl; lengths = rw add-zero (sym (set-get_or ls P 0)) })

-- party P's part of the bytes, from its start to its end, as it is lent; and the bytes with ys in its place
abbrev span : (R P : ℕ) → ℕ
span R P = P * R + R - P * R

abbrev area : (R P : ℕ) → List ℕ → List ℕ
area R P xs = take (span R P) (drop (P * R) xs)

abbrev back : (R P : ℕ) → (xs ys : List ℕ) → List ℕ
back R P xs ys = take (P * R) xs ++ (ys ++ drop (span R P) (drop (P * R) xs))

pub area_length : (R P : ℕ) (xs : List ℕ) → P * R + R ≤ length xs → length (area R P xs) ≡ R
area_length R P xs h =
    let q : span R P ≡ R = omega arith in
    length-take-le (span R P) (drop (P * R) xs) (rw length-drop (omega arith)) ∙ q

module _ (R P : ℕ) (xs ls ys : List ℕ) (h : P * R + R ≤ length xs) where
  -- its part came back with vs after what was used
  pub wrote : (vs ws : List ℕ) (n : ℕ) → vs ≡ ws → ys ≡ sets (area R P xs) (get_or ls P 0) ws → get_or ls P 0 + length ws ≤ R → n ≡ get_or ls P 0 + length ws
      → Writes R P vs xs ls (back R P xs ys) (set ls P n)
  wrote vs ws n e b l t =
      rw e (record { bytes = ap (back R P xs) b ∙ part_wrote (P * R) (span R P) (get_or ls P 0) xs ws (omega arith) (omega arith); lengths = ap (set ls P) t })

  -- its part came back as it was
  pub unwritten : (vs : List ℕ) → vs ≡ [] → ys ≡ area R P xs → Writes R P vs xs ls (back R P xs ys) ls
  unwritten vs e b =
      rw e
      (record {
        bytes = ap (back R P xs) b ∙ part_wrote (P * R) (span R P) 0 xs [] (omega arith) (omega arith);
        lengths = rw add-zero (sym (set-get_or ls P 0));
      })

  -- the last event
  pub ended : (v : Value) (E : Event) (n : ℕ) → E ≡ finished (slice P v) → Closes E (get_or ls P 0) (area R P xs) n ys
      → Writes R P (written (finishing R v P (get_or ls P 0))) xs ls (back R P xs ys) (set ls P n)
  ended v E n f k = go (leb (get_or ls P 0 + held_back) R) refl (rw (area_length R P xs h) at k.answer) (rw (area_length R P xs h) at k.bytes)
    where
      u : ℕ
      u = get_or ls P 0

      go : (t : Bool) → leb (u + held_back) R ≡ t → n ≡ cond t (u + length (event_bytes E)) u → ys ≡ cond t (sets (area R P xs) u (event_bytes E)) (area R P xs)
          → Writes R P (written (finishing R v P u)) xs ls (back R P xs ys) (set ls P n)
      go true q a b =
          let l : u + held_back ≤ R = leb-true (u + held_back) R q in
          let w : written (finishing R v P u) ≡ event_bytes E = finishing_one R v P u l ∙ rw f in
          let z : length (event_bytes E) ≡ held_back = rw f (finished_length (slice P v)) in
          wrote (written (finishing R v P u)) (event_bytes E) n w b (omega arith) a
      go false q a b =
          let w : written (finishing R v P u) ≡ [] = finishing_none R v P u (leb-false (u + held_back) R q) in
          rw (a, set-get_or ls P 0) (unwritten (written (finishing R v P u)) w b)
