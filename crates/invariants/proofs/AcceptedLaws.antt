-- A call whose answer is no refusal was accepted, and an accepted call leaves each party's record of its run. Assumes nothing.
use mathlib.Core.Path.{◌≡◌, refl}
use mathlib.Core.Bool.{◌&&◌}
use mathlib.Core.List.{List}
use mathlib.Core.Option.{Option}
use Prim.Native.Nat.{ℕ, ◌*◌, ◌≤◌, ◌<◌}
use lib.Dec.{leb}
use lib.ListN.{length, get_or}
use borrow.Author.Tests.{leb-true}
use Rattle.program.specs.Check.{checked}
use Rattle.program.specs.ScanLaws.{both}
use Rattle.records.specs.Events.{written, held_back}
use Rattle.rules.specs.Books.{Books, used}
use Rattle.rules.specs.Single.{Single, going, ended, stopped}
use Rattle.rules.specs.Joint.{book_of}
use Rattle.rules.specs.Lent.{Lent, area_size, room_of, inputs_of, enough_lent, left_by}
use Rattle.rules.specs.Calls.{Call, Accepted, call_of, SingleAnswer, setting_of, single_left, single_of, single_call, joint_left, joint_of, joint_call}
use Rattle.rules.specs.CallLaws.{call_is, call_accepted}
use Rattle.invariants.specs.Runs.{books_of}
use Rattle.invariants.specs.Left.{record_of}
use Rattle.invariants.specs.Accepted.{single_run, joint_run, SingleAccepted, JointAccepted, IsSingleRun, IsJointRun}
use Rattle.invariants.proofs.RoomLaws.{single_fits_lem, joint_fits_lem}
use Rattle.invariants.proofs.LeftLaws.{length_left, record_left}

-- ---- enough was lent

pub record Enough (n : ℕ) (L : Lent) : Type 0 where
  pub room : held_back ≤ room_of n L
  pub places : n ≤ length L.lengths

pub enough : {areas : ℕ → ℕ} {first_bad : ℕ → Option ℕ} {L : Lent} (a : Accepted areas first_bad L) → Enough a.program.parties L
unfolding enough_lent
enough {areas} {first_bad} {L} a =
    let n = a.program.parties in
    let (most, work) = both (leb held_back (room_of n L) && leb n (length L.lengths)) (leb (areas n * area_size) (length L.work)) a.lent in
    let (room, places) = both (leb held_back (room_of n L)) (leb n (length L.lengths)) most in
    record { room = leb-true held_back (room_of n L) room; places = leb-true n (length L.lengths) places }

-- ---- both calls: the run of an accepted call left the books b, with an answer

module _ {A : Type 0} (c : Call A) (L : Lent) (a : Accepted c.areas c.first_bad L) (answer : A) (b : Books) (left : c.run a.program ≡ left_by a.program.parties L answer b) where
  call_record : ((Q : ℕ) → Q < a.program.parties → used (b Q) ≤ room_of a.program.parties L) → (P : ℕ) → P < a.program.parties
      → record_of a.program.parties P (call_of c L (checked L.program)) ≡ written (b P).events
  call_record fits P l = rw (call_is c L a, left) (record_left a.program.parties L answer b (enough a).places fits P l)

  call_length : (P : ℕ) → P < a.program.parties → get_or (call_of c L (checked L.program)).lengths P 0 ≡ used (b P)
  call_length P l = rw (call_is c L a, left) (length_left a.program.parties L answer b (enough a).places P l)

-- ---- the single call

left_by_lem : (n : ℕ) (L : Lent) (s : Single) → (answer : SingleAnswer) × (single_left n L s ≡ left_by n L answer (books_of s))
unfolding single_left
left_by_lem n L (going t c b) = (_, refl)
left_by_lem n L (ended t v b) = (_, refl)
left_by_lem n L (stopped t refusal e b) = (_, refl)

module _ (L : Lent) (budget : ℕ) where
  -- its answer is that of a run, so it was accepted
  pub single_accepted : IsSingleRun (single_call L budget).answer → SingleAccepted L
  unfolding single_call single_of
  single_accepted h = call_accepted (single_of L budget) L IsSingleRun (λ number place r. r) h

  module _ (a : SingleAccepted L) where
    -- an accepted call leaves what its run leaves
    pub single_is : single_call L budget ≡ single_left a.program.parties L (single_run a.program L budget)
    unfolding single_call single_of
    single_is = call_is (single_of L budget) L a

    -- and each party's record in it is that of the run
    pub single_record : (P : ℕ) → P < a.program.parties → record_of a.program.parties P (single_call L budget) ≡ written (books_of (single_run a.program L budget) P).events
    unfolding single_call single_of
    single_record P l =
        let (answer, left) = left_by_lem a.program.parties L (single_run a.program L budget) in
        call_record (single_of L budget) L a answer _ left (λ Q g. single_fits_lem (setting_of a.program L) (inputs_of L) (enough a).room budget Q g) P l

    -- with its length among the lengths
    pub single_length : (P : ℕ) → P < a.program.parties → get_or (single_call L budget).lengths P 0 ≡ used (books_of (single_run a.program L budget) P)
    unfolding single_call single_of
    single_length P l =
        let (answer, left) = left_by_lem a.program.parties L (single_run a.program L budget) in
        call_length (single_of L budget) L a answer _ left P l

-- ---- the joint call

module _ (L : Lent) (ts : List ℕ) where
  -- its answer is that of a run, so it was accepted
  pub joint_accepted : IsJointRun (joint_call L ts).answer → JointAccepted L ts
  unfolding joint_call joint_of
  joint_accepted h = call_accepted (joint_of L ts) L IsJointRun (λ number place r. r) h

  module _ (a : JointAccepted L ts) where
    -- an accepted call leaves what its run leaves
    pub joint_is : joint_call L ts ≡ joint_left a.program.parties L (joint_run a.program L ts)
    unfolding joint_call joint_of
    joint_is = call_is (joint_of L ts) L a

    -- and each party's record in it is that of the run
    pub joint_record : (P : ℕ) → P < a.program.parties → record_of a.program.parties P (joint_call L ts) ≡ written (book_of ((joint_run a.program L ts).sites P)).events
    unfolding joint_call joint_of joint_left
    joint_record P l = call_record (joint_of L ts) L a _ _ refl (λ Q g. joint_fits_lem (setting_of a.program L) (inputs_of L) (enough a).room ts Q) P l

    -- with its length among the lengths
    pub joint_length : (P : ℕ) → P < a.program.parties → get_or (joint_call L ts).lengths P 0 ≡ used (book_of ((joint_run a.program L ts).sites P))
    unfolding joint_call joint_of joint_left
    joint_length P l = call_length (joint_of L ts) L a _ _ refl P l
