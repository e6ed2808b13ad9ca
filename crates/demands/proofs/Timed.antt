-- The joint run against the times of the single run: each site is what its party sees at a time of its own, and all members
-- of a meeting have it behind them or none has. Assumes nothing.
use Prim.Native.Nat.{ℕ, suc, ◌+◌, ◌<◌, ◌≤◌}
use mathlib.Core.Path.{◌≡◌, refl, sym, ap, ◌∙◌}
use mathlib.Core.Bool.{Bool, true, false, ◌&&◌, cond, false≢true}
use mathlib.Core.List.{List}
use native.Mathlib.Nat.{zero-add}
use native.Mathlib.Omega.{arith}
use native.Mathlib.Decide.{ℕ_discrete, dec_le}
use lib.IntN.{ℤ}
use Rattle.rules.specs.Single.{Setting, after}
use Rattle.rules.specs.Joint.{Site, Sites, Turned}
use Rattle.demands.specs.Rounds.{active, meets_at, sum_below, how_many}
use Rattle.demands.proofs.Seen.{seen, Fine}
use Rattle.demands.proofs.Times.{Rest, rest}
use Rattle.demands.proofs.Tally.{charged, tally, total, tally_idle, total_moved}

-- The single run is followed for K steps. Of a site that is past them only `Kept` is said.
module _ (S : Setting) (inputs : ℕ → List ℤ) (K : ℕ) (sound : Fine (after S inputs K)) (Kept : ℕ → Site → Type 0) where
  pub record Timed (J : Sites) : Type 0 where
    pub time : ℕ → ℕ
    pub upto : (P : ℕ) → P < S.program.parties → time P ≤ K
    pub is : (P : ℕ) → P < S.program.parties → time P < K → J P ≡ seen P (after S inputs (time P))
    pub kept : (P : ℕ) → P < S.program.parties → time P ≡ K → Kept P (J P)
    pub act : (P : ℕ) → P < S.program.parties → time P < K → active P (after S inputs (time P)) ≡ true
    pub sync : (P Q u : ℕ) → P < S.program.parties → Q < S.program.parties → meets_at S (after S inputs u) ≡ true
        → active P (after S inputs u) ≡ true → active Q (after S inputs u) ≡ true → u < time P → u < time Q

  -- After a turn of party P no site's time is lower; and P's is higher, if no other was lower and it was not at the end.
  -- Where it was not at the end, what the sites have behind them grows by what the turn counts; where it was, no time changes.
  pub record Onward (P : ℕ) (J : Sites) (r : Turned) (τ : Timed J) : Type 0 where
    pub timed : Timed r.sites
    pub later : (X : ℕ) → X < S.program.parties → τ.time X ≤ timed.time X
    pub passes : ((X : ℕ) → X < S.program.parties → τ.time P ≤ τ.time X) → τ.time P < K → τ.time P < timed.time P
    pub counts : τ.time P < K → total S inputs timed.time ≡ r.count + total S inputs τ.time
    pub rests : τ.time P ≡ K → timed.time ≡ τ.time

  -- the sites of M, all at time t, move on from it; if there is a meeting at t, all who are in it are among them; this is put to one account
  module _ (J : Sites) (r : Turned) (τ : Timed J) (t : ℕ) (before : t < K) (M : ℕ → Bool)
      (there : (X : ℕ) → X < S.program.parties → M X ≡ true → τ.time X ≡ t)
      (all : meets_at S (after S inputs t) ≡ true → (X : ℕ) → X < S.program.parties → active X (after S inputs t) ≡ true → M X ≡ true)
      (new : (X : ℕ) → X < S.program.parties → r.sites X ≡ cond (M X) (seen X (after S inputs (suc t))) (J X))
      (once : how_many S.program.parties (λ X. M X && charged S X (after S inputs t)) ≡ 1) (counted : r.count ≡ 1)
      (keep : (X : ℕ) → Kept X (seen X (after S inputs K))) where
    on : (X : ℕ) → Rest S inputs K sound X (suc t)
    on X = rest S inputs K sound X (suc t) before

    time' : ℕ → ℕ
    time' X = cond (M X) (on X).at (τ.time X)

    time_moved : (X : ℕ) → M X ≡ true → time' X ≡ (on X).at
    unfolding time'
    time_moved X e = rw e

    time_left : (X : ℕ) → M X ≡ false → time' X ≡ τ.time X
    unfolding time'
    time_left X e = rw e

    upto' : (X : ℕ) → X < S.program.parties → time' X ≤ K
    upto' X p = go (M X) refl
      where
        go : (m : Bool) → M X ≡ m → time' X ≤ K
        go true e = rw (time_moved X e) (on X).upto
        go false e = rw (time_left X e) (τ.upto X p)

    new_moved : (X : ℕ) → X < S.program.parties → M X ≡ true → r.sites X ≡ seen X (after S inputs (time' X))
    new_moved X p e = rw (new X p, e, time_moved X e) (sym (on X).same)

    new_left : (X : ℕ) → X < S.program.parties → M X ≡ false → r.sites X ≡ J X
    new_left X p e = rw (new X p, e)

    is' : (X : ℕ) → X < S.program.parties → time' X < K → r.sites X ≡ seen X (after S inputs (time' X))
    is' X p h = go (M X) refl
      where
        go : (m : Bool) → M X ≡ m → r.sites X ≡ seen X (after S inputs (time' X))
        go true e = new_moved X p e
        go false e = new_left X p e ∙ rw (time_left X e) (τ.is X p (rw (time_left X e) at h))

    kept' : (X : ℕ) → X < S.program.parties → time' X ≡ K → Kept X (r.sites X)
    kept' X p h = go (M X) refl
      where
        go : (m : Bool) → M X ≡ m → Kept X (r.sites X)
        go true e = rw (new_moved X p e, h) (keep X)
        go false e = rw (new_left X p e) (τ.kept X p (sym (time_left X e) ∙ h))

    act' : (X : ℕ) → X < S.program.parties → time' X < K → active X (after S inputs (time' X)) ≡ true
    act' X p = go (M X) refl
      where
        go : (m : Bool) → M X ≡ m → time' X < K → active X (after S inputs (time' X)) ≡ true
        go true e h = rw (time_moved X e) ((on X).act (rw (time_moved X e) at h))
        go false e h = rw (time_left X e) (τ.act X p (rw (time_left X e) at h))

    gone : (X : ℕ) → M X ≡ true → t < time' X
    gone X e = rw (time_moved X e) (on X).from

    later' : (X : ℕ) → X < S.program.parties → τ.time X ≤ time' X
    later' X p = go (M X) refl
      where
        go : (m : Bool) → M X ≡ m → τ.time X ≤ time' X
        go true e = omega (arith, there X p e, gone X e)
        go false e = omega (arith, time_left X e)

    -- one that moves has nothing behind it that was not behind it, but t
    not_past : (X u : ℕ) → M X ≡ true → active X (after S inputs u) ≡ true → u < time' X → u ≤ t
    not_past X u e a h = go (dec_le u t)
      where
        go : Dec (u ≤ t) → u ≤ t
        go (yes k) = k
        go (no k) = absurd (false≢true (sym ((on X).idle u (omega arith) (rw (time_moved X e) at h)) ∙ a))

    sync' : (P Q u : ℕ) → P < S.program.parties → Q < S.program.parties → meets_at S (after S inputs u) ≡ true
        → active P (after S inputs u) ≡ true → active Q (after S inputs u) ≡ true → u < time' P → u < time' Q
    sync' P Q u p q m aP aQ h = go (M P) (M Q) refl refl
      where
        stay : M P ≡ true → M Q ≡ false → Dec (u ≡ t) → u < time' Q
        stay eP eQ (yes e) = absurd (false≢true (sym eQ ∙ all (rw e at m) Q q (rw e at aQ)))
        stay eP eQ (no n) = rw (time_left Q eQ) (τ.sync P Q u p q m aP aQ (omega (arith, there P p eP, not_past P u eP aP h)))

        go : (x y : Bool) → M P ≡ x → M Q ≡ y → u < time' Q
        go true true eP eQ = omega (arith, not_past P u eP aP h, gone Q eQ)
        go true false eP eQ = stay eP eQ (ℕ_discrete u t)
        go false true eP eQ = omega (arith, τ.sync P Q u p q m aP aQ (rw (time_left P eP) at h), there Q q eQ, gone Q eQ)
        go false false eP eQ = rw (time_left Q eQ) (τ.sync P Q u p q m aP aQ (rw (time_left P eP) at h))

    tally_new : (X : ℕ) → X < S.program.parties → tally S inputs X (time' X) ≡ cond (M X && charged S X (after S inputs t)) 1 0 + tally S inputs X (τ.time X)
    tally_new X x = go (M X) refl
      where
        one_more : tally S inputs X (suc t) ≡ cond (charged S X (after S inputs t)) 1 0 + tally S inputs X t
        one_more = unfold tally sum_below in refl

        go : (m : Bool) → M X ≡ m → tally S inputs X (time' X) ≡ cond (m && charged S X (after S inputs t)) 1 0 + tally S inputs X (τ.time X)
        go true e = rw (time_moved X e, there X x e) (tally_idle S inputs X (suc t) (on X).at (on X).from (on X).idle ∙ one_more)
        go false e = rw (time_left X e) (sym (zero-add (tally S inputs X (τ.time X))))

    moved : Timed r.sites
    moved = record { time = time'; upto = upto'; is = is'; kept = kept'; act = act'; sync = sync' }

    pub onward : (P : ℕ) → P < S.program.parties → M P ≡ true → Onward P J r τ
    unfolding moved
    onward P p e =
        record {
          timed = moved;
          later = later';
          passes = λ lowest h. omega (arith, there P p e, gone P e);
          counts = λ h. total_moved S inputs τ.time time' t M tally_new once ∙ ap (λ (k : ℕ). k + total S inputs τ.time) (sym counted);
          rests = λ h. absurd (omega (arith, there P p e));
        }
