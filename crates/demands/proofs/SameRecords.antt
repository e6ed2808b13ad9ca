-- Demand 2: where the single run ends, a site that finishes has the same record, and enough rounds finish all of them. Assumes nothing.
use Prim.Native.Nat.{ℕ, ◌<◌, ◌≤◌}
use mathlib.Core.Path.{◌≡◌, refl, sym, ap, ◌∙◌}
use mathlib.Core.Bool.{true, false, false≢true}
use mathlib.Core.List.{List}
use native.Mathlib.Omega.{arith}
use native.Mathlib.Decide.{dec_lt}
use lib.IntN.{ℤ}
use Rattle.limits.specs.Limits.{max_parties}
use Rattle.rules.specs.Single.{Setting, Single, going, ended, stopped, after}
use Rattle.rules.specs.Joint.{Site, over, land, Sites, turn, start_all, is_finished, book_of}
use Rattle.invariants.specs.Sites.{site_after}
use Rattle.invariants.specs.Runs.{books_of}
use Rattle.invariants.proofs.Passing.{turn_passes, over_stays}
use Rattle.demands.specs.Rounds.{Below, Rounds, IsEnded, active}
use Rattle.demands.proofs.Seen.{seen, seen_control, Fine}
use Rattle.demands.proofs.Inside.{Inside}
use Rattle.demands.proofs.Timed.{Timed, Onward}
use Rattle.demands.proofs.TimedTurn.{turn_onward}
use Rattle.demands.proofs.RoundLaws.{started, started_times, timed_after, rounds_keep}

pub ended_fine : (s : Single) → IsEnded s → Fine s
ended_fine (going t c b) h = absurd h
ended_fine (ended t v b) h = tt
ended_fine (stopped t k e b) h = absurd h

ended_seen : (X : ℕ) (s : Single) → IsEnded s → seen X s ≡ over true (books_of s X)
unfolding seen
ended_seen X (going t c d) k = absurd k
ended_seen X (ended t v d) k = refl
ended_seen X (stopped t r e d) k = absurd k

seen_running : (X : ℕ) (s : Single) → active X s ≡ true → is_finished (seen X s) ≡ false
unfolding seen seen_control land
seen_running X (going t c d) a = rw a
seen_running X (ended t v d) a = absurd (false≢true a)
seen_running X (stopped t k e d) a = absurd (false≢true a)

-- what is kept of a site at the end: all
abbrev pub AtEnd : Setting → (ℕ → List ℤ) → ℕ → ℕ → Site → Type 0
AtEnd S inputs K X s = s ≡ over true (books_of (after S inputs K) X)

module _ (S : Setting) (inputs : ℕ → List ℤ) (K : ℕ) (end : IsEnded (after S inputs K)) where
  -- the sites along a single run that ends
  abbrev pub TimedToEnd : Sites → Type 0
  TimedToEnd J = Timed S inputs K (ended_fine (after S inputs K) end) (AtEnd S inputs K) J

  abbrev pub OnwardToEnd : (P : ℕ) (J : Sites) → TimedToEnd J → Type 0
  OnwardToEnd P J τ = Onward S inputs K (ended_fine (after S inputs K) end) (AtEnd S inputs K) P J (turn S P J) τ

  keep : (X : ℕ) → AtEnd S inputs K X (seen X (after S inputs K))
  keep X = ended_seen X (after S inputs K) end

  keeps : (J : Sites) (τ : TimedToEnd J) (Q X : ℕ) → Q < S.program.parties → X < S.program.parties → τ.time X ≡ K → AtEnd S inputs K X ((turn S Q J).sites X)
  keeps J τ Q X q x h =
      over_stays S X (J X) ((turn S Q J).sites X) true (books_of (after S inputs K) X) (turn_passes S Q J X) (τ.kept X x h) ∙ τ.kept X x h

  inside : (X : ℕ) (s : Site) → AtEnd S inputs K X s → Inside X s
  inside X s e = rw e tt

  -- a site that has finished is at the end
  pub finished_time : (J : Sites) (τ : TimedToEnd J) (X : ℕ) → X < S.program.parties → is_finished (J X) ≡ true → τ.time X ≡ K
  finished_time J τ X x f = go (dec_lt (τ.time X) K)
    where
      go : Dec (τ.time X < K) → τ.time X ≡ K
      go (yes k) = absurd (false≢true (sym (seen_running X (after S inputs (τ.time X)) (τ.act X x k)) ∙ ap is_finished (sym (τ.is X x k)) ∙ f))
      go (no k) = omega (arith, τ.upto X x)

  module _ (small : S.program.parties ≤ max_parties) where
    pub start_to_end : (τ : TimedToEnd (start_all S inputs)) × (τ.time ≡ (λ X. 0))
    start_to_end = (
      started S inputs K (ended_fine (after S inputs K) end) small (AtEnd S inputs K) keep keeps inside,
      started_times S inputs K (ended_fine (after S inputs K) end) small (AtEnd S inputs K) keep keeps inside,
    )

    pub turn_to_end : (J : Sites) (τ : TimedToEnd J) (P : ℕ) → P < S.program.parties → OnwardToEnd P J τ
    turn_to_end = turn_onward S inputs K (ended_fine (after S inputs K) end) small (AtEnd S inputs K) keep keeps inside

    -- a site that finishes has the single run's book: its whole record, and what is left of its inputs
    pub same_record : (ts : List ℕ) → Below S.program.parties ts → (X : ℕ) → X < S.program.parties → is_finished (site_after S inputs ts X) ≡ true
        → book_of (site_after S inputs ts X) ≡ books_of (after S inputs K) X
    same_record ts h X x f =
        let τ = timed_after S inputs K (ended_fine (after S inputs K) end) small (AtEnd S inputs K) keep keeps inside ts h in
        ap book_of (τ.kept X x (finished_time _ τ X x f))

    -- K rounds finish every site
    pub rounds_complete : (ts : List ℕ) → Below S.program.parties ts → Rounds S.program.parties K ts
        → (X : ℕ) → X < S.program.parties → is_finished (site_after S inputs ts X) ≡ true
    rounds_complete ts h r X x = ap is_finished (rounds_keep S inputs K (ended_fine (after S inputs K) end) small (AtEnd S inputs K) keep keeps inside ts h r X x)
