-- The table of places: one more of them written. Assumes nothing.
use mathlib.Core.Path.{◌≡◌, refl, ap, ◌∙◌}
use mathlib.Core.List.{List}
use Prim.Native.Nat.{ℕ, suc, ◌+◌, ◌*◌, ◌/◌, ◌%◌, ◌≤◌, ◌<◌}
use native.Mathlib.Numerals.{add-one}
use native.Mathlib.Decide.{dec_lt}
use native.Mathlib.Omega.{arith}
use lib.ListN.{length, get_or, drop, set}
use lib.Seq.{sets, length-sets, drop-set-lt}
use Rattle.words.specs.Words.{low_first, number_at}
use Rattle.stretches.proofs.StretchLaws.{sets_before}
use Rattle.words.proofs.WordLaws.{number_same, number_back}
use Rattle.program.specs.Kinds.{body_of}
use Rattle.places.specs.Places.{length_of, next_at, place_of, Tabled}
use Rattle.places.specs.GoodLaws.{length_short, place_near}
use Rattle.std.proofs.Common.{Option}
use Rattle.program.specs.declared.kinds.Rule.{Rule}

module _ (p : List ℕ) (at : ℕ) {x : Option (ℕ × Rule)} (e : body_of (get_or p at 0) ≡ x) where
  pub length_below : length_of x ≤ 5
  length_below = rw e at (length_short (get_or p at 0))

  pub next_from : at + 1 + length_of x ≡ next_at p at
  unfolding next_at
  next_from = rw e

-- the first k places are written
pub record Listing (p : List ℕ) (nodes : ℕ) (before after : List ℕ) (at k : ℕ) : Type 0 where
  pub within : k ≤ nodes
  pub here : at ≡ place_of p k
  pub long : length after ≡ length before
  pub places : (j : ℕ) → j < k → number_at 2 after (2 * j) ≡ place_of p j
  pub rest : drop (2 * nodes) after ≡ drop (2 * nodes) before

module _ (p : List ℕ) (nodes : ℕ) (before : List ℕ) where
  pub listing_start : Listing p nodes before before 2 0
  unfolding place_of
  listing_start = record { within = omega arith; here = refl; long = refl; places = λ j h. absurd (omega arith); rest = refl }

  module _ (after : List ℕ) (at k : ℕ) (g : Listing p nodes before after at k) where
    pub place_small : nodes ≤ 1024 → at < 65535
    place_small h = omega (arith, g.here, g.within, place_near p k)

    pub listing_on : nodes ≤ 1024 → 2 * nodes ≤ length before → k < nodes → (table : List ℕ) → table ≡ sets after (2 * k) (low_first 2 at) → (next : ℕ) → next ≡ next_at p at
        → Listing p nodes before table next (k + 1)
    unfolding place_of low_first
    listing_on m l h table e next q =
        let s = g.long in
        record {
          within = omega arith;
          here = q ∙ ap (next_at p) g.here ∙ rw (add-one k);
          long = ap length e ∙ length-sets after (2 * k) (low_first 2 at) ∙ g.long;
          places = λ j i. rw e (elim (dec_lt j k) [
            | yes b ↦ number_same 2 (sets after (2 * k) (low_first 2 at)) (2 * j) after (2 * j) (λ d o. sets_before (low_first 2 at) after (2 * k) (2 * j + d) (omega arith)) ∙ g.places j b
            | no b ↦ let r : j ≡ k = omega arith in rw r (number_back 2 at after (2 * k) (omega (arith, place_small m)) (omega arith) ∙ g.here)
          ]);
          rest = ap (drop (2 * nodes)) e ∙ drop-set-lt (2 * nodes) (set after (2 * k) (at % 256)) (suc (2 * k)) (at / 256 % 256) (omega arith) ∙ drop-set-lt (2 * nodes) after (2 * k) (at % 256) (omega arith) ∙ g.rest;
        }

    pub listing_end : nodes ≤ k → Tabled p nodes before after
    listing_end h = record { places = λ j i. g.places j (omega arith); rest = g.rest }

-- what keeps the table's bytes keeps the places
pub tabled_kept : (p : List ℕ) (nodes : ℕ) (before after table : List ℕ) → Tabled p nodes before after → ((i : ℕ) → i < 2 * nodes → get_or table i 0 ≡ get_or after i 0)
    → (k : ℕ) → k < nodes → number_at 2 table (2 * k) ≡ place_of p k
tabled_kept p nodes before after table t e k h = number_same 2 table (2 * k) after (2 * k) (λ d o. e (2 * k + d) (omega arith)) ∙ t.places k h
