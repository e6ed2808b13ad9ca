-- A kind and its width, an event read among the bytes of a record, and the answers of a step. Assumes nothing.
use mathlib.Core.Path.{◌≡◌, refl, sym, ap}
use mathlib.Core.Bool.{Bool, true, false, cond, and-eq-true_iff}
use mathlib.Core.List.{List}
use Prim.Native.Nat.{ℕ, zero, suc, ◌+◌, ◌-◌, ◌≤◌, ◌<◌}
use native.Mathlib.Nat.{add_assoc}
use native.Mathlib.Omega.{arith}
use lib.Dec.{leb}
use lib.ListN.{length, get_or, drop, length-drop}
use lib.Seq.{get_or-drop}
use borrow.Author.Tests.{le-leb, lt-leb, leb-true}
use Rattle.words.specs.Words.{number_at}
use Rattle.words.proofs.WordLaws.{number_same}
use Rattle.refusals.specs.Numbers.{not_an_event}
use Rattle.walk.specs.Walk.{is_event_kind, body_width, width_of, event_from, is_whole, event, end, refused, step_answer}
use Rattle.records.specs.declared.events.Event.{Event}
use Rattle.std.specs.Prelude.{Some, None}
use Rattle.std.proofs.lemmas.Option.{cond_some}

-- ---- the width of a kind
pub key : (n k : ℕ) → k ≡ n → width_of n ≡ width_of k
key n k e = ap width_of (sym e)

pub one_or_two : (k : ℕ) → 1 ≤ k → k < 3 → Some 4 ≡ width_of k
unfolding width_of body_width
one_or_two zero h l = absurd (omega arith)
one_or_two (suc zero) h l = refl
one_or_two (suc (suc zero)) h l = refl
one_or_two (suc (suc (suc k))) h l = absurd (omega arith)

pub below_one : (k : ℕ) → k < 1 → None ≡ width_of k
unfolding width_of
below_one k h = rw (lt-leb 1 k h)

pub above_seven : (k : ℕ) → 7 < k → None ≡ width_of k
unfolding width_of
above_seven k h = rw (le-leb 1 k (omega arith), lt-leb k 7 h)

pub record IsKnown (k n : ℕ) : Type 0 where
  pub kind : is_event_kind k ≡ true
  pub width : n ≡ body_width k

module _ (k : ℕ) where
  pub known : (n : ℕ) → Some n ≡ width_of k → IsKnown k n
  unfolding width_of
  known n e = let c = cond_some (is_event_kind k) (body_width k) n (sym e) in record { kind = c.0; width = sym c.1 }

  unknown : None ≡ width_of k → is_event_kind k ≡ false
  unfolding width_of
  unknown e = go (is_event_kind k) e
    where
      go : (t : Bool) → None ≡ cond t (Some (body_width k)) None → t ≡ false
      go true e = absurd (let z : ◌≡◌ {A = ℕ} 0 1 = cc in omega arith)
      go false e = refl

  pub kind_range : is_event_kind k ≡ true → (1 ≤ k) × (k ≤ 7)
  kind_range e = let b = (and-eq-true_iff (leb 1 k) (leb k 7)).0 e in (leb-true 1 k b.0, leb-true k 7 b.1)

-- ---- a number read from some place on
pub number_dropped : (k : ℕ) (xs : List ℕ) (at i : ℕ) → number_at k (drop at xs) i ≡ number_at k xs (at + i)
number_dropped k xs at i = number_same k (drop at xs) i xs (at + i) (λ l h. rw (get_or-drop, add_assoc))

-- ---- the step at a place
module _ (xs : List ℕ) (at : ℕ) where
  pub at_end : length xs ≤ at → end ≡ step_answer xs at
  unfolding step_answer
  at_end h = rw (le-leb (length xs) at h)

  module _ (h : at < length xs) where
    bad : is_whole (get_or xs at 0) (drop (at + 1) xs) ≡ false → refused not_an_event at ≡ step_answer xs at
    unfolding step_answer
    bad e = rw (lt-leb (length xs) at h, e)

    pub of_no_kind : None ≡ width_of (get_or xs at 0) → refused not_an_event at ≡ step_answer xs at
    unfolding is_whole
    of_no_kind e = bad (rw (unknown (get_or xs at 0) e))

    pub cut : (n : ℕ) → Some n ≡ width_of (get_or xs at 0) → length xs - (at + 1) < n → refused not_an_event at ≡ step_answer xs at
    unfolding is_whole
    cut n e l =
        let w = known (get_or xs at 0) n e in
        bad (rw (w.kind, lt-leb (body_width (get_or xs at 0)) (length (drop (at + 1) xs)) (rw (length-drop, ← w.width) l)))

    pub whole : (n : ℕ) (e : Event) → Some n ≡ width_of (get_or xs at 0) → n ≤ length xs - (at + 1) → e ≡ event_from (get_or xs at 0) (drop (at + 1) xs)
        → event e (at + 1 + n) ≡ step_answer xs at
    unfolding is_whole step_answer
    whole n e k l ee =
        let w = known (get_or xs at 0) n k in
        rw (lt-leb (length xs) at h, w.kind, le-leb (body_width (get_or xs at 0)) (length (drop (at + 1) xs)) (rw (length-drop, ← w.width) l), ee, ← w.width)
