-- The count of turns: where the single run ends and every site has finished, the turns that count are those that the single run's steps take,
-- whatever the order of the turns was. Assumes nothing.
use Prim.Native.Nat.{ℕ, suc, ◌+◌, ◌<◌, ◌≤◌}
use mathlib.Core.Path.{◌≡◌, sym, ap, ◌∙◌}
use mathlib.Core.Bool.{true, false≢true}
use mathlib.Core.List.{List, [], ◌∷◌}
use native.Mathlib.Nat.{zero-add}
use native.Mathlib.Omega.{arith}
use native.Mathlib.Decide.{dec_lt}
use lib.IntN.{ℤ}
use Rattle.limits.specs.Limits.{max_parties}
use Rattle.program.specs.Check.{node_at}
use Rattle.rules.specs.Books.{Book}
use Rattle.rules.specs.Single.{Setting, Single, going, ended, stopped, step, after}
use Rattle.rules.specs.Joint.{over, Sites, turn, turn_at, run_turns, start_all, is_finished}
use Rattle.invariants.specs.Sites.{site_after}
use Rattle.invariants.specs.Runs.{books_of}
use Rattle.demands.specs.Rounds.{Below, IsEnded, active, meets_at, turns_of}
use Rattle.demands.proofs.Brought.{somebody}
use Rattle.demands.proofs.Seen.{Fine, NestedIn, nested_below}
use Rattle.demands.proofs.Times.{after_one_more, fine, nested}
use Rattle.demands.proofs.Tally.{sum_same, tally, total, total_none, total_all}
use Rattle.demands.proofs.TimedTurn.{meets_here}
use Rattle.demands.proofs.SameRecords.{ended_fine, TimedToEnd, OnwardToEnd, finished_time, start_to_end, turn_to_end}

-- a site that is over does nothing on its turn
over_idle : (S : Setting) (P : ℕ) (J : Sites) (b : Book) → J P ≡ over true b → (turn S P J).count ≡ 0
unfolding turn turn_at
over_idle S P J b e = rw e

-- a joint step that the single run takes has a member below n
member_there : (S : Setting) (s : Single) → ((X : ℕ) → NestedIn S.program.parties X s) → Fine (step S s) → meets_at S s ≡ true
    → (Q : ℕ) × (Q < S.program.parties) × (active Q s ≡ true)
member_there S (going t c b) n f j =
    let w = meets_here S t c b j f in
    let (Q, h, k) = somebody c.mode (node_at S.program c.node) c.names w.mt w.i w.h j w.is in
    (Q, nested_below S.program.parties Q c.mode c.frames (n Q) k, k)
member_there S (ended t v b) n f j = absurd (false≢true j)
member_there S (stopped t k e b) n f j = absurd (false≢true j)

module _ (S : Setting) (inputs : ℕ → List ℤ) (K : ℕ) (end : IsEnded (after S inputs K)) where
  peopled : (t : ℕ) → t < K → meets_at S (after S inputs t) ≡ true → (Q : ℕ) × (Q < S.program.parties) × (active Q (after S inputs t) ≡ true)
  peopled t h =
      member_there S (after S inputs t) (λ X. nested S inputs K (ended_fine (after S inputs K) end) X t)
      (rw after_one_more at (fine S inputs K (ended_fine (after S inputs K) end) (suc t) h))

  -- what a turn counts is what the sites get behind them by it
  counts_all : (J : Sites) (τ : TimedToEnd S inputs K end J) (P : ℕ) → P < S.program.parties → (o : OnwardToEnd S inputs K end P J τ)
      → total S inputs o.timed.time ≡ (turn S P J).count + total S inputs τ.time
  counts_all J τ P p o = go (dec_lt (τ.time P) K)
    where
      at_end : τ.time P ≡ K → total S inputs o.timed.time ≡ (turn S P J).count + total S inputs τ.time
      at_end e = ap (total S inputs) (o.rests e) ∙ omega (arith, over_idle S P J (books_of (after S inputs K) P) (τ.kept P p e))

      go : Dec (τ.time P < K) → total S inputs o.timed.time ≡ (turn S P J).count + total S inputs τ.time
      go (yes h) = o.counts h
      go (no h) = at_end (omega (arith, τ.upto P p))

  module _ (small : S.program.parties ≤ max_parties) where
    run_counted : (ts : List ℕ) → Below S.program.parties ts → (J : Sites) (τ : TimedToEnd S inputs K end J)
        → (l : TimedToEnd S inputs K end (run_turns S ts J).sites) × (total S inputs l.time ≡ (run_turns S ts J).count + total S inputs τ.time)
    unfolding run_turns
    run_counted [] h J τ = (τ, sym (zero-add (total S inputs τ.time)))
    run_counted (P ∷ ts) h J τ =
        let o = turn_to_end S inputs K end small J τ P h.0 in
        let (l, e) = run_counted ts h.1 (turn S P J).sites o.timed in
        (l, omega (arith, counts_all J τ P h.0 o))

    -- where all sites have finished, the number of turns at which a site stepped is that of the single run's steps
    pub turn_count : (ts : List ℕ) → Below S.program.parties ts → ((X : ℕ) → X < S.program.parties → is_finished (site_after S inputs ts X) ≡ true)
        → (run_turns S ts (start_all S inputs)).count ≡ turns_of S inputs K
    turn_count ts h f =
        let (s, z) = start_to_end S inputs K end small in
        let (l, e) = run_counted ts h (start_all S inputs) s in
        let all : total S inputs l.time ≡ total S inputs (λ X. K) =
        unfold total in sum_same _ _ _ (λ X x. ap (tally S inputs X) (finished_time S inputs K end _ l X x (f X x))) in
        let none : total S inputs s.time ≡ 0 = ap (total S inputs) z ∙ total_none S inputs in
        omega (arith, total_all S inputs K peopled)
