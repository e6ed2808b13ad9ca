-- The place that a call's refusal names fits the number that the call answers. Assumes nothing.
use mathlib.Core.Path.{◌≡◌, refl}
use mathlib.Core.Bool.{Bool, true, false, cond}
use mathlib.Core.List.{List}
use mathlib.Core.Option.{some}
use Prim.Native.Nat.{ℕ, ◌<◌}
use native.Mathlib.Omega.{arith}
use Rattle.program.specs.Check.{Program, Checked, good, bad, checked}
use Rattle.program.specs.Answer as Check
use Rattle.rules.specs.Lent.{Lent, Left, unchanged, left_by}
use Rattle.rules.specs.Single.{Single, going, ended, stopped}
use Rattle.rules.specs.Joint.{Turned, all_finished}
use Rattle.rules.specs.Calls.{Call, call_of, complete, still_open, single_left, single_of, single_call, joint_left, joint_of, joint_call}
use Rattle.rules.specs.CallLaws.{Place, of_byte, of_turn, no_place, Ends, refused, ran, call_ends}
use Rattle.threadmolar.specs.Answers.{place_limit}
use Rattle.threadmolar.specs.Runs.{SingleFits, JointFits}
use Rattle.threadmolar.proofs.PlaceLaws.{bad_near, turn_near}

-- ---- the check

pub check_fits : (bs : List ℕ) (number place : ℕ) → Check.refused number place ≡ Check.check_answer bs → place < place_limit
unfolding Check.check_answer
check_fits bs number place e = go (checked bs) refl e
  where
    go : (x : Checked) → checked bs ≡ x → Check.refused number place ≡ Check.answer_of x → place < place_limit
    go (good p) c f = absurd (let z : ◌≡◌ {A = ℕ} 0 1 = cc in omega arith)
    go (bad q) c f = let z : place ≡ q = cc in omega (arith, bad_near bs q c)

-- ---- a call: Fits holds of what is refused at a place that fits the number, and of what a run answers

module _ {A : Type 0} (c : Call A) (L : Lent) (Fits : A → Type 0) where
  place_near : ((n index : ℕ) → c.first_bad n ≡ some index → index < place_limit) → {place : ℕ} → Place c L place → place < place_limit
  place_near turns (of_byte e) = omega (arith, bad_near L.program _ e)
  place_near turns (of_turn e) = turns _ _ e
  place_near turns no_place = omega arith

  call_fits : ((n index : ℕ) → c.first_bad n ≡ some index → index < place_limit) → ((number place : ℕ) → place < place_limit → Fits (c.refuse number place))
      → ((p : Program) → Fits (c.run p).answer) → Fits (call_of c L (checked L.program)).answer
  unfolding unchanged
  call_fits turns refused-fits run_fits = go (call_ends c L)
    where
      go : {left : Left A} → Ends c L left → Fits left.answer
      go (refused number k w) = refused-fits number _ (place_near turns w)
      go (ran a) = run_fits a.program

-- ---- the single run

single_left_lem : (n : ℕ) (L : Lent) (s : Single) → SingleFits (single_left n L s).answer
unfolding single_left left_by
single_left_lem n L (going t c b) = tt
single_left_lem n L (ended t v b) = tt
single_left_lem n L (stopped t refusal e b) = tt

pub single_fits : (L : Lent) (budget : ℕ) → SingleFits (single_call L budget).answer
unfolding single_call single_of
single_fits L budget =
    call_fits (single_of L budget) L SingleFits (λ n index e. absurd (let z : ◌≡◌ {A = ℕ} 0 1 = cc in omega arith)) (λ number place h. h) (λ p. single_left_lem p.parties L _)

-- ---- the joint run

joint_left_lem : (n : ℕ) (L : Lent) (t : Turned) → JointFits (joint_left n L t).answer
unfolding joint_left left_by
joint_left_lem n L t = go (all_finished n t.sites)
  where
    go : (b : Bool) → JointFits (cond b (complete t.count) (still_open t.count))
    go true = tt
    go false = tt

pub joint_fits : (L : Lent) (ts : List ℕ) → JointFits (joint_call L ts).answer
unfolding joint_call joint_of
joint_fits L ts =
    call_fits (joint_of L ts) L JointFits (λ n index e. omega (arith, turn_near n 0 ts index (omega arith) e)) (λ number place h. h) (λ p. joint_left_lem p.parties L _)
