-- What a call leaves can be shown: each party has its length, and a record within its room. Assumes nothing.
use mathlib.Core.Path.{◌≡◌, ap, subst}
use mathlib.Core.List.{List}
use mathlib.Core.Option.{Option}
use Prim.Native.Nat.{ℕ, ◌≤◌, ◌<◌}
use native.Mathlib.Omega.{arith}
use lib.ListN.{length, get_or}
use Rattle.program.specs.Check.{Checked, checked}
use Rattle.program.specs.Answer.{answer_of, check_answer}
use Rattle.places.specs.GoodLaws.{good_program}
use Rattle.rules.specs.Lent.{Lent, Is, room_of, inputs_of}
use Rattle.rules.specs.Calls.{Accepted, SingleAnswer, JointAnswer, setting_of, single_call, joint_call}
use Rattle.invariants.specs.Accepted.{IsSingleRun, IsJointRun}
use Rattle.invariants.proofs.RoomLaws.{single_fits_lem, joint_fits_lem}
use Rattle.invariants.proofs.AcceptedLaws.{enough, single_accepted, single_length, joint_accepted, joint_length}
use Rattle.printing.specs.declared.lines.SingleLine.{SingleLine}
use Rattle.printing.specs.declared.lines.SingleLine.TheVariants as SingleLine'
use Rattle.printing.specs.declared.lines.JointLine.{JointLine}
use Rattle.printing.specs.declared.lines.JointLine.TheVariants as JointLine'
use Rattle.printing.specs.Shown.{Fit, max_records, single_said, joint_said, single_fits, joint_fits}
use Rattle.rehearsal.specs.Both.{parties_of}

-- ---- what is left of what was lent; rs and ls are the records and the lengths, and a call changes the length of neither
module _ (L : Lent) (rs ls : List ℕ) (r : length rs ≡ length L.records) (p : length ls ≡ length L.lengths) (few : length L.records ≤ max_records) where
  abbrev n : ℕ
  n = parties_of (check_answer L.program)

  fit : {areas : ℕ → ℕ} {first_bad : ℕ → Option ℕ} (a : Accepted areas first_bad L) → ((P : ℕ) → P < a.program.parties → get_or ls P 0 ≤ room_of a.program.parties L) → Fit n rs ls
  unfolding check_answer room_of
  fit a h =
      let q : parties_of (answer_of (checked L.program)) ≡ a.program.parties = ap (λ (x : Checked). parties_of (answer_of x)) a.checks in
      rw q
      (record {
        few = (good_program L.program a.program a.checks).few_parties;
        places = omega (arith, p, (enough a).places);
        inside = λ P l. rw r (h P l);
        small = omega arith;
      })

  -- the single call, whose answer, records and lengths they are
  module _ (budget : ℕ) where
    single_run : {a : SingleAnswer} {w : List ℕ} → Is (single_call L budget) a rs ls w → IsSingleRun a → Fit n rs ls
    single_run i h =
        let c = single_accepted L budget (subst IsSingleRun i.answer h) in
        fit c (λ P l. rw (i.lengths, single_length L budget c P l) (single_fits_lem (setting_of c.program L) (inputs_of L) (enough c).room budget P l))

    -- a line that says its answer can be put
    pub single_call_fits : (w : List ℕ) (line : SingleLine) → Is (single_call L budget) (single_said line) rs ls w → single_fits line n rs ls
    single_call_fits w (SingleLine'.Refused number place) i = tt
    single_call_fits w (SingleLine'.Stopped number node steps) i = single_run i tt
    single_call_fits w (SingleLine'.Ended steps) i = single_run i tt
    single_call_fits w (SingleLine'.Budget steps) i = single_run i tt

  -- the joint call
  module _ (turns : List ℕ) where
    joint_run : {a : JointAnswer} {w : List ℕ} → Is (joint_call L turns) a rs ls w → IsJointRun a → Fit n rs ls
    joint_run i h =
        let c = joint_accepted L turns (subst IsJointRun i.answer h) in
        fit c (λ P l. rw (i.lengths, joint_length L turns c P l) (joint_fits_lem (setting_of c.program L) (inputs_of L) (enough c).room turns P))

    pub joint_call_fits : (w : List ℕ) (line : JointLine) → Is (joint_call L turns) (joint_said line) rs ls w → joint_fits line n rs ls
    joint_call_fits w (JointLine'.Refused number place) i = tt
    joint_call_fits w (JointLine'.Complete turned) i = joint_run i tt
    joint_call_fits w (JointLine'.Open turned) i = joint_run i tt
