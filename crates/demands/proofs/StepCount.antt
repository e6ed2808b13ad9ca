-- The single run's count of steps: a run that ended after some steps had ended when it had taken so many. Assumes nothing.
use Prim.Native.Nat.{ℕ, zero, suc, ◌+◌}
use mathlib.Core.Path.{◌≡◌, refl, subst}
use mathlib.Core.Bool.{Bool, true, false, cond}
use mathlib.Core.List.{List, [], ◌∷◌}
use mathlib.Core.Option.{Option}
use native.Mathlib.Omega.{arith}
use lib.IntN.{ℤ}
use Rattle.refusals.specs.Numbers.{no_room}
use Rattle.records.specs.declared.events.Event.{Event}
use Rattle.rules.specs.Moves.{Control, Next, on, ends, full, move}
use Rattle.rules.specs.Books.{Books, room_for}
use Rattle.rules.specs.Single.{Setting, Single, going, ended, stopped, all_of, note_all, arrive, settle_all, read_all, perform, step, after}
use Rattle.rules.specs.declared.effects.Move.{Move}
use Rattle.rules.specs.declared.effects.Offer.TheVariants.{Empty, Secret}
use Rattle.rules.specs.declared.effects.Effect.{Effect}
use Rattle.rules.specs.declared.effects.Effect.TheVariants.{Refuse, Goes, Reads, Writes, Meets}
use Rattle.demands.proofs.Times.{after_one_more, after_none}

-- a step from a state with the count t
abbrev Counts : ℕ → Single → Type 0
Counts t (going u c b) = u ≡ t + 1
Counts t (ended u v b) = u ≡ t + 1
Counts t (stopped u refusal node b) = Unit {0}

arrive_counts : (t e : ℕ) (x : Next) (b : Books) → Counts t (arrive t e x b)
unfolding arrive
arrive_counts t e (on c) b = refl
arrive_counts t e (ends v) b = refl
arrive_counts t e full b = tt

settle_counts : (S : Setting) (t : ℕ) (c : Control) (b : Books) (o : Option Event) (mv : Move) → Counts t (settle_all S t c b o mv)
unfolding settle_all
settle_counts S t c b o mv = go (all_of S.program.parties c.mode (λ P. room_for S.room P o (b P)))
  where
    go : (y : Bool) → Counts t (cond y (arrive t c.node (move mv c) (note_all c.mode o b)) (stopped t no_room c.node b))
    go true = arrive_counts t c.node (move mv c) (note_all c.mode o b)
    go false = tt

read_counts : (S : Setting) (t : ℕ) (c : Control) (b : Books) (is : List ℤ) → Counts t (read_all S t c b is)
unfolding read_all
read_counts S t c b [] = tt
read_counts S t c b (i ∷ is) = settle_counts S t c b _ _

perform_counts : (S : Setting) (t : ℕ) (c : Control) (b : Books) (e : Effect) → Counts t (perform S t c b e)
unfolding perform
perform_counts S t c b (Refuse refusal) = tt
perform_counts S t c b (Goes mv) = settle_counts S t c b _ mv
perform_counts S t c b Reads = read_counts S t c b _
perform_counts S t c b (Writes i) = settle_counts S t c b _ _
perform_counts S t c b (Meets mt Empty) = tt
perform_counts S t c b (Meets mt (Secret i h)) = settle_counts S t c b _ _

step_counts : (S : Setting) (t : ℕ) (c : Control) (b : Books) → Counts t (step S (going t c b))
unfolding step
step_counts S t c b = perform_counts S t c b _

module _ (S : Setting) (inputs : ℕ → List ℤ) where
  abbrev Reached : ℕ → Single → Type 0
  Reached k (going u c b) = u ≡ k
  Reached k (ended u v b) = after S inputs u ≡ ended u v b
  Reached k (stopped u refusal node b) = Unit {0}

  reached_next : (k u : ℕ) (s : Single) → u ≡ k → after S inputs (suc k) ≡ s → Counts u s → Reached (suc k) s
  reached_next k u (going w c b) e q h = omega arith
  reached_next k u (ended w v b) e q h =
      let n : suc k ≡ w = omega arith in
      subst (λ (j : ℕ). after S inputs j ≡ ended w v b) n q
  reached_next k u (stopped w refusal node b) e q h = tt

  reached_step : (k : ℕ) (s : Single) → after S inputs (suc k) ≡ step S s → Reached k s → Reached (suc k) (step S s)
  reached_step k (going u c b) q r = reached_next k u (step S (going u c b)) r q (step_counts S u c b)
  reached_step k (ended u v b) q r = unfold step in r
  reached_step k (stopped u refusal node b) q r = unfold step in tt

  reached : (k : ℕ) → Reached k (after S inputs k)
  reached zero = rw after_none refl
  reached (suc k) = rw after_one_more (reached_step k (after S inputs k) (after_one_more S inputs k) (reached k))

  pub ended_by : (k steps : ℕ) {v : _} {b : Books} → after S inputs k ≡ ended steps v b → after S inputs steps ≡ ended steps v b
  ended_by k steps e = subst (Reached k) e (reached k)
