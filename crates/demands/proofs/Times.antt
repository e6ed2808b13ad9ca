-- The single run as a line of times, and what one party sees along it. Assumes nothing.
use Prim.Native.Nat.{ℕ, zero, suc, ◌+◌, ◌-◌, ◌<◌, ◌≤◌}
use mathlib.Core.Path.{◌≡◌, refl, sym, ◌∙◌}
use mathlib.Core.Bool.{Bool, true, false}
use mathlib.Core.List.{List}
use native.Mathlib.Nat.{le_refl, zero-add, suc-add, add-suc}
use native.Mathlib.Omega.{arith}
use native.Mathlib.Decide.{ℕ_discrete}
use lib.IntN.{ℤ}
use Rattle.parties.specs.Sets.{all}
use Rattle.parties.specs.SetLaws.{member_within, within_all}
use Rattle.rules.specs.Moves.{start}
use Rattle.rules.specs.Books.{opening}
use Rattle.rules.specs.Single.{Setting, Single, going, ended, stopped, step, run, after}
use Rattle.rules.specs.RunLaws.{run_one_more}
use Rattle.demands.specs.Rounds.{active}
use Rattle.demands.proofs.Seen.{seen, Fine, NestedIn, step_nested}
use Rattle.demands.proofs.SeenStep.{step_unseen}

pub after_one_more : (S : Setting) (inputs : ℕ → List ℤ) (t : ℕ) → after S inputs (suc t) ≡ step S (after S inputs t)
unfolding after
after_one_more S inputs t = run_one_more S t (going 0 (start S.program) (opening inputs))

pub after_none : (S : Setting) (inputs : ℕ → List ℤ) → after S inputs 0 ≡ going 0 (start S.program) (opening inputs)
unfolding after run
after_none S inputs = refl

fine_before : (S : Setting) (s : Single) → Fine (step S s) → Fine s
unfolding step
fine_before S (going t c b) h = tt
fine_before S (ended t v b) h = tt
fine_before S (stopped t k e b) h = h

unseen : (P : ℕ) (S : Setting) (s : Single) → active P s ≡ false → Fine (step S s) → seen P (step S s) ≡ seen P s
unseen P S (going t c b) a h = step_unseen P c a S t b h
unseen P S (ended t v b) a h = unfold step in refl
unseen P S (stopped t k e b) a h = unfold step in refl

module _ (S : Setting) (inputs : ℕ → List ℤ) (K : ℕ) (sound : Fine (after S inputs K)) where
  -- a run that is fine after K steps was fine before
  fine_back : (d t : ℕ) → Fine (after S inputs (d + t)) → Fine (after S inputs t)
  fine_back zero t h = rw zero-add at h
  fine_back (suc d) t h = fine_back d t (fine_before S (after S inputs (d + t)) (rw (suc-add d t, after_one_more S inputs (d + t)) at h))

  pub fine : (t : ℕ) → t ≤ K → Fine (after S inputs t)
  fine t h =
      let e : K - t + t ≡ K = omega arith in
      fine_back (K - t) t (rw e sound)

  pub nested : (P t : ℕ) → NestedIn S.program.parties P (after S inputs t)
  nested P zero = rw after_none (unfold start in λ e. member_within P S.program.parties (all S.program.parties) (within_all S.program.parties) e)
  nested P (suc t) = rw after_one_more (step_nested S.program.parties P S (after S inputs t) (nested P t))

  -- where party P rests: at the next time at which it is in the mode, or at the end
  pub record Rest (P t : ℕ) : Type 0 where
    pub at : ℕ
    pub from : t ≤ at
    pub upto : at ≤ K
    pub same : seen P (after S inputs at) ≡ seen P (after S inputs t)
    pub act : at < K → active P (after S inputs at) ≡ true
    pub idle : (w : ℕ) → t ≤ w → w < at → active P (after S inputs w) ≡ false

  stays : (P t : ℕ) → t < K → active P (after S inputs t) ≡ false → seen P (after S inputs (suc t)) ≡ seen P (after S inputs t)
  stays P t h a = rw after_one_more (unseen P S (after S inputs t) a (rw after_one_more at (fine (suc t) h)))

  rest_in : (P d t : ℕ) → d + t ≡ K → Rest P t
  rest_in P zero t e = record { at = t; from = le_refl t; upto = omega (arith, zero-add t); same = refl; act = λ h. absurd (omega (arith, zero-add t)); idle = λ w h k. absurd (omega arith) }
  rest_in P (suc d) t e = go (active P (after S inputs t)) refl (rest_in P d (suc t) (add-suc d t ∙ sym (suc-add d t) ∙ e))
    where
      idle : (u : ℕ) → ((w : ℕ) → suc t ≤ w → w < u → active P (after S inputs w) ≡ false) → active P (after S inputs t) ≡ false
          → (w : ℕ) → t ≤ w → w < u → active P (after S inputs w) ≡ false
      idle u f a w h k = at_time (ℕ_discrete w t)
        where
          at_time : Dec (w ≡ t) → active P (after S inputs w) ≡ false
          at_time (yes e) = rw e a
          at_time (no n) = f w (omega arith) k

      go : (a : Bool) → active P (after S inputs t) ≡ a → Rest P (suc t) → Rest P t
      go true a r = record { at = t; from = le_refl t; upto = omega (arith, suc-add d t); same = refl; act = λ h. a; idle = λ w h k. absurd (omega arith) }
      go false a r = record { at = r.at; from = omega (arith, r.from); upto = r.upto; same = r.same ∙ stays P t (omega (arith, r.from, r.upto)) a; act = r.act; idle = idle r.at r.idle a }

  pub rest : (P t : ℕ) → t ≤ K → Rest P t
  rest P t h = rest_in P (K - t) t (omega arith)
