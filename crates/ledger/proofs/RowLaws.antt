-- The parties' books in the lent bytes and lengths: what they depend on, and what one party's write makes of them. Assumes nothing.
use mathlib.Core.Path.{◌≡◌, refl, ◌∙◌}
use mathlib.Core.List.{List, ◌++◌}
use Prim.Native.Nat.{ℕ, zero, suc, ◌+◌, ◌*◌, ◌≤◌, ◌<◌}
use native.Mathlib.Decide.{dec_lt}
use native.Mathlib.Omega.{arith}
use lib.ListN.{length, get_or, set, length-append}
use lib.Seq.{sets, set-set, set_comm}
use Rattle.stretches.proofs.StretchLaws.{sets_append}
use Rattle.records.specs.Events.{written}
use Rattle.rules.specs.Books.{Books, used}
use Rattle.rules.specs.Lent.{records_left, lengths_left}
use Rattle.invariants.proofs.RowLaws.{rows}
use Rattle.invariants.proofs.LeftLaws.{length_of}
use Rattle.ledger.specs.Ledger.{Holds}
use Rattle.ledger.specs.Writes.{Writes}
use Rattle.ledger.proofs.PartLaws.{sets_comm}

-- of the parties below n the books have the same bytes
abbrev pub Same : ℕ → Books → Books → Type 0
Same n b b' = (P : ℕ) → P < n → written (b' P).events ≡ written (b P).events

-- party P's record grew by vs, and no other
pub record Grew (P : ℕ) (vs : List ℕ) (b b' : Books) : Type 0 where
  pub own : written (b' P).events ≡ written (b P).events ++ vs
  pub others : (Q : ℕ) → (Q ≡ P → ⊥) → written (b' Q).events ≡ written (b Q).events

-- ---- only the written bytes matter
pub records_same : (n R : ℕ) (b b' : Books) (xs : List ℕ) → Same n b b' → records_left n R b xs ≡ records_left n R b' xs
unfolding records_left
records_same zero R b b' xs s = refl
records_same (suc P) R b b' xs s = rw (records_same P R b b' xs (λ Q h. s Q (omega arith)), s P (omega arith))

pub lengths_same : (n : ℕ) (b b' : Books) (ls : List ℕ) → Same n b b' → lengths_left n b ls ≡ lengths_left n b' ls
unfolding lengths_left used
lengths_same zero b b' ls s = refl
lengths_same (suc P) b b' ls s = rw (lengths_same P b b' ls (λ Q h. s Q (omega arith)), s P (omega arith))

-- ---- one party's record grows
module _ (R P : ℕ) (vs : List ℕ) (b b' : Books) (g : Grew P vs b b') where
  below : (n : ℕ) → n ≤ P → Same n b b'
  below n l Q h = g.others Q (omega arith)

  pub records_more : (n : ℕ) (xs : List ℕ) → P < n → used (b P) + length vs ≤ R → sets (records_left n R b xs) (P * R + used (b P)) vs ≡ records_left n R b' xs
  unfolding records_left used
  records_more zero xs h l = absurd (let z : P < 0 = h in omega arith)
  records_more (suc m) xs h l =
      elim (dec_lt P m) [
        | yes q ↦
            sets_comm vs (written (b m).events) (records_left m R b xs) (P * R + used (b P)) (m * R) (omega (arith, rows P m R q))
            ∙ rw (records_more m xs q l, g.others m (omega arith))
        | no q ↦
            let e : m ≡ P = omega arith in
            rw e (sets_append (written (b P).events) vs (records_left P R b xs) (P * R) ∙ rw (records_same P R b b' xs (below P (omega arith)), g.own))
      ]

  pub lengths_more : (n : ℕ) (ls : List ℕ) → P < n → set (lengths_left n b ls) P (used (b P) + length vs) ≡ lengths_left n b' ls
  unfolding lengths_left used
  lengths_more zero ls h = absurd (let z : P < 0 = h in omega arith)
  lengths_more (suc m) ls h =
      elim (dec_lt P m) [
        | yes q ↦
            set_comm (lengths_left m b ls) m P (used (b m)) (used (b P) + length vs) (omega arith)
            ∙ rw (lengths_more m ls q, g.others m (omega arith))
        | no q ↦
            let e : m ≡ P = omega arith in
            rw e (set-set (lengths_left P b ls) P (used (b P)) (used (b P) + length vs) ∙ rw (lengths_same P b b' ls (below P (omega arith)), g.own, length-append))
      ]

-- ---- the same of bytes and lengths that hold books
module _ (R n : ℕ) (b b' : Books) (xs₀ ls₀ xs ls : List ℕ) (h : Holds R n b xs₀ ls₀ xs ls) where
  pub holds_same : Same n b b' → Holds R n b' xs₀ ls₀ xs ls
  holds_same s = record { bytes = h.bytes ∙ records_same n R b b' xs₀ s; lengths = h.lengths ∙ lengths_same n b b' ls₀ s }

  pub holds_length : (P : ℕ) → P < n → n ≤ length ls₀ → get_or ls P 0 ≡ used (b P)
  holds_length P q l = rw h.lengths (length_of n P b ls₀ q l)

  pub holds_more : (P : ℕ) (vs xs' ls' : List ℕ) → P < n → n ≤ length ls₀ → used (b P) + length vs ≤ R → Grew P vs b b' → Writes R P vs xs ls xs' ls'
      → Holds R n b' xs₀ ls₀ xs' ls'
  holds_more P vs xs' ls' q l r g w =
      let u : get_or ls P 0 ≡ used (b P) = holds_length P q l in
      record {
        bytes = w.bytes ∙ rw (u, h.bytes) (records_more R P vs b b' g n xs₀ q r);
        lengths = w.lengths ∙ rw (u, h.lengths) (lengths_more R P vs b b' g n ls₀ q);
      }
