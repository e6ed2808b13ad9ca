-- Rounds of turns carry every site along the single run. Assumes nothing.
use Prim.Native.Nat.{ℕ, suc, ◌+◌, ◌<◌, ◌≤◌, zero-le}
use mathlib.Core.Path.{◌≡◌, refl, sym, ◌∙◌, subst}
use mathlib.Core.Bool.{true}
use mathlib.Core.List.Memᴰ
use mathlib.Core.List.{List, [], ◌∷◌, ◌++◌, Memᴰ}
use mathlib.Core.Logic.{◌⊎◌, inl, inr}
use native.Mathlib.Nat.{le_refl, not-suc-le-zero, zero-add, add-zero, suc-add, add-suc}
use native.Mathlib.Omega.{arith}
use native.Mathlib.Decide.{dec_lt}
use lib.IntN.{ℤ}
use Rattle.limits.specs.Limits.{max_parties}
use Rattle.parties.specs.SetLaws.{member_all}
use Rattle.rules.specs.Moves.{start}
use Rattle.rules.specs.Single.{Setting, after}
use Rattle.rules.specs.Joint.{Site, land, Sites, turn, run_turns, start_all}
use Rattle.invariants.proofs.NameLaws.{none_on}
use Rattle.demands.specs.Rounds.{Below, Rounds, enough, round, active}
use Rattle.demands.proofs.Seen.{seen, seen_control, frames_of, Fine}
use Rattle.demands.proofs.Inside.{Inside}
use Rattle.demands.proofs.Times.{after_none}
use Rattle.demands.proofs.Timed.{Timed, Onward}
use Rattle.demands.proofs.TimedTurn.{turn_onward}

below_left : (n : ℕ) (r ts : List ℕ) → Below n (r ++ ts) → Below n r
below_left n [] ts h = tt
below_left n (P ∷ r) ts h = (h.0, below_left n r ts h.1)

below_right : (n : ℕ) (r ts : List ℕ) → Below n (r ++ ts) → Below n ts
below_right n [] ts h = h
below_right n (P ∷ r) ts h = below_right n r ts h.1

turns_append : (S : Setting) (r ts : List ℕ) (J : Sites) → (run_turns S (r ++ ts) J).sites ≡ (run_turns S ts (run_turns S r J).sites).sites
unfolding run_turns
turns_append S [] ts J = refl
turns_append S (P ∷ r) ts J = turns_append S r ts (turn S P J).sites

-- at the start a site is what its party sees
seen_start : (S : Setting) (inputs : ℕ → List ℤ) (X : ℕ) → X < S.program.parties → start_all S inputs X ≡ seen X (after S inputs 0)
unfolding start start_all seen seen_control land frames_of
seen_start S inputs X x = rw (after_none, member_all X S.program.parties x, none_on)

active_start : (S : Setting) (inputs : ℕ → List ℤ) (X : ℕ) → X < S.program.parties → active X (after S inputs 0) ≡ true
unfolding start
active_start S inputs X x = rw after_none (member_all X S.program.parties x)

module _ (S : Setting) (inputs : ℕ → List ℤ) (K : ℕ) (sound : Fine (after S inputs K)) (small : S.program.parties ≤ max_parties) (Kept : ℕ → Site → Type 0)
    (keep : (X : ℕ) → Kept X (seen X (after S inputs K)))
    (keeps : (J : Sites) (τ : Timed S inputs K sound Kept J) (Q X : ℕ) → Q < S.program.parties → X < S.program.parties → τ.time X ≡ K → Kept X ((turn S Q J).sites X))
    (kept-inside : (X : ℕ) (s : Site) → Kept X s → Inside X s) where
  -- at the start every site is at time 0
  pub started : Timed S inputs K sound Kept (start_all S inputs)
  started =
      record {
        time = λ X. 0;
        upto = λ X x. zero-le;
        is = λ X x h. seen_start S inputs X x;
        kept = λ X x h. rw (seen_start S inputs X x) (subst (λ (k : ℕ). Kept X (seen X (after S inputs k))) (sym h) (keep X));
        act = λ X x h. active_start S inputs X x;
        sync = λ P Q u p q m aP aQ h. absurd (not-suc-le-zero h);
      }

  pub started_times : started.time ≡ (λ X. 0)
  unfolding started
  started_times = refl

  -- after some turns no time is lower
  record Later (J J' : Sites) (τ : Timed S inputs K sound Kept J) : Type 0 where
    timed : Timed S inputs K sound Kept J'
    later : (X : ℕ) → X < S.program.parties → τ.time X ≤ timed.time X

  -- and if all were at k or past it, each party that had a turn is past it
  run_later : (ts : List ℕ) → Below S.program.parties ts → (J : Sites) (τ : Timed S inputs K sound Kept J) (k : ℕ) → ((X : ℕ) → X < S.program.parties → k ≤ τ.time X)
      → (l : Later J (run_turns S ts J).sites τ) × ((X : ℕ) → X < S.program.parties → Memᴰ X ts → k < K → k < l.timed.time X)
  unfolding run_turns
  run_later [] h J τ k low = (record { timed = τ; later = λ X x. le_refl _ }, λ X x m. absurd (Memᴰ.not-nil m))
  run_later (P ∷ ts) h J τ k low =
      let o : Onward S inputs K sound Kept P J (turn S P J) τ = turn_onward S inputs K sound small Kept keep keeps kept-inside J τ P h.0 in
      go o (run_later ts h.1 (turn S P J).sites o.timed k (λ X x. omega (arith, low X x, o.later X x)))
    where
      J₁ : Sites
      J₁ = (turn S P J).sites

      go : (o : Onward S inputs K sound Kept P J (turn S P J) τ)
          → (l : Later J₁ (run_turns S ts J₁).sites o.timed) × ((X : ℕ) → X < S.program.parties → Memᴰ X ts → k < K → k < l.timed.time X)
          → (l : Later J (run_turns S ts J₁).sites τ) × ((X : ℕ) → X < S.program.parties → Memᴰ X (P ∷ ts) → k < K → k < l.timed.time X)
      go o (l, g) = (record { timed = l.timed; later = λ X x. omega (arith, o.later X x, l.later X x) }, past)
        where
          first : k < K → Dec (k < τ.time P) → k < l.timed.time P
          first kK (yes d) = omega (arith, o.later P h.0, l.later P h.0)
          first kK (no d) = omega (arith, low P h.0, l.later P h.0, o.passes (λ X x. omega (arith, low X x)) (omega arith))

          past : (X : ℕ) → X < S.program.parties → Memᴰ X (P ∷ ts) → k < K → k < l.timed.time X
          past X x m kK = cases (Memᴰ.cases_cons m)
            where
              cases : (X ≡ P) ⊎ Memᴰ X ts → k < l.timed.time X
              cases (inl e) = rw e (first kK (dec_lt k (τ.time P)))
              cases (inr i) = g X x i kK

  record Complete (J : Sites) : Type 0 where
    timed : Timed S inputs K sound Kept J
    all : (X : ℕ) → X < S.program.parties → K ≤ timed.time X

  run_rounds : {k : ℕ} {ts : List ℕ} → Rounds S.program.parties k ts → Below S.program.parties ts → (J : Sites) (τ : Timed S inputs K sound Kept J) (j : ℕ)
      → ((X : ℕ) → X < S.program.parties → j ≤ τ.time X) → k + j ≡ K → Complete (run_turns S ts J).sites
  run_rounds (enough {ts}) h J τ j low e =
      let (l, g) = run_later ts h J τ j low in
      record { timed = l.timed; all = λ X x. omega (arith, low X x, l.later X x, zero-add j) }
  run_rounds (round {k} {ts} r every rest) h J τ j low e =
      let (l, g) = run_later r (below_left S.program.parties r ts h) J τ j low in
      subst Complete (sym (turns_append S r ts J))
      (run_rounds rest (below_right S.program.parties r ts h) (run_turns S r J).sites l.timed (suc j)
      (λ X x. g X x (every X x) (omega (arith, suc-add k j))) (add-suc k j ∙ sym (suc-add k j) ∙ e))

  -- after any turns the sites are timed; after K rounds all are past the K steps
  pub timed_after : (ts : List ℕ) → Below S.program.parties ts → Timed S inputs K sound Kept (run_turns S ts (start_all S inputs)).sites
  timed_after ts h = (run_later ts h (start_all S inputs) started 0 (λ X x. zero-le)).0.timed

  pub rounds_keep : (ts : List ℕ) → Below S.program.parties ts → Rounds S.program.parties K ts
      → (X : ℕ) → X < S.program.parties → Kept X ((run_turns S ts (start_all S inputs)).sites X)
  rounds_keep ts h r X x =
      let d = run_rounds r h (start_all S inputs) started 0 (λ X x. zero-le) (add-zero K) in
      d.timed.kept X x (omega (arith, d.all X x, d.timed.upto X x))
