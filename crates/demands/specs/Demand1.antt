-- Demand 1: "Every call accepts every program, input, turn list and room. It runs, or returns the refusal and place that document 01 fixes; a refused
-- call changes no lent byte; every run ends." No public call has a `requires`, and each has an `ensures` that is one equation with a total
-- function; that a call ends is part of its proof. What is said here of those contracts: each allows one answer and one content of every
-- lent slice, and a refused call leaves all as it was.
use Rattle.std.specs.Prelude.{ℕ, ◌≤◌, ◌<◌, ◌≡◌, Result}
use mathlib.Core.List.{List, Memᴰ}
use Rattle.std.specs.Borrow.{Bor}
use Rattle.program.specs.Answer.{check_answer}
use Rattle.program.specs.Answer as Check
use Rattle.program.specs.Check.{Program, good, checked}
use Rattle.program.specs.declared.check.Good.{Good}
use Rattle.program.specs.declared.check.BadRecord.{BadRecord}
use Rattle.walk.specs.Walk.{step_answer}
use Rattle.walk.specs.Walk as Walk
use Rattle.order.specs.Order.{order_of, Continues}
use Rattle.walk.specs.declared.Step.{Step}
use Rattle.order.specs.declared.Order.{Order}
use Rattle.reader.specs.Next.{place_after}
use Rattle.reader.specs.declared.Reader.{Reader}
use Rattle.records.specs.declared.events.Event.{Event}
use Rattle.records.specs.declared.events.Event.TheVariants.{Stopped}
use Rattle.rules.specs.Lent.{Lent, Left}
use Rattle.refusals.specs.Numbers.{name_unbound, too_deep, disagreement}
use Rattle.rules.specs.CallLaws.{RefusalNumber}
use Rattle.rules.specs.Calls.{single_call, joint_call, SingleAnswer, stopped_at, ended_after, budget_used, JointAnswer, complete, still_open}
use Rattle.single.specs.Runs as Single
use Rattle.refusals.specs.declared.Refused.{Refused}
use Rattle.single.specs.declared.runs.Answer as Single'
use Rattle.joint.specs.Runs as Joint
use Rattle.joint.specs.declared.runs.Answer as Joint'
use Rattle.invariants.specs.Accepted.{joint_run, IsSingleRun, IsJointRun}
use Rattle.invariants.specs.InRange.{AllBytes, AllIntegers}
use Rattle.invariants.specs.Left.{record_of}
use Rattle.invariants.specs.Sites.{events_of}
use Rattle.demands.specs.Walked.{events_in}

-- every lent byte is as it was
pub record Untouched {A : Type 0} (L : Lent) (X : Left A) : Type 0 where
  pub records : X.records ≡ L.records
  pub lengths : X.lengths ≡ L.lengths
  pub work : X.work ≡ L.work

-- "5 to 10 stop the single run"
abbrev pub StopNumber : ℕ → Type 0
StopNumber number = (name_unbound ≤ number) × (number ≤ too_deep)

abbrev pub SingleNumber : SingleAnswer → Type 0
SingleNumber (SingleAnswer.refused number place) = RefusalNumber number
SingleNumber (stopped_at number node steps) = StopNumber number
SingleNumber (ended_after steps) = Unit {0}
SingleNumber (budget_used steps) = Unit {0}

abbrev pub JointNumber : JointAnswer → Type 0
JointNumber (JointAnswer.refused number place) = RefusalNumber number
JointNumber (complete turns) = Unit {0}
JointNumber (still_open turns) = Unit {0}

-- 5 to 10 "stop one site", and where holders disagree "all of m stop with 11 instead"
abbrev pub SiteStopNumber : ℕ → Type 0
SiteStopNumber number = (name_unbound ≤ number) × (number ≤ disagreement)

-- "refusal, node": every event of kind 7 among these has such a refusal
abbrev pub SiteStops : List Event → Type 0
SiteStops events = (number node : ℕ) → Memᴰ (Stopped number node) events → SiteStopNumber number

pub record Demand1 : Type 0 where
  -- program::check::check
  pub check : (bs : List ℕ) (r r' : Result Good BadRecord) → Check.told r ≡ check_answer bs → Check.told r' ≡ check_answer bs → r ≡ r'
  -- walk::Cursor::step
  pub step : (bs : List ℕ) (at : ℕ) (r r' : Step) → Walk.told r ≡ step_answer bs at → Walk.told r' ≡ step_answer bs at → r ≡ r'
  -- reader::Reader::event and reader::event_at have the contract of `step`; reader::Reader::new and moved_on hand back a reader, which is a slice and a place
  pub reader_new : (bytes : Bor (List ℕ)) (r r' : Reader) → (r.bytes ≡ bytes) × (r.at ≡ 0) → (r'.bytes ≡ bytes) × (r'.at ≡ 0) → r ≡ r'
  pub reader_moved_on : (d r r' : Reader) → (r.bytes ≡ d.bytes) × (r.at ≡ place_after d.bytes.now d.at)
      → (r'.bytes ≡ d.bytes) × (r'.at ≡ place_after d.bytes.now d.at) → r ≡ r'
  -- order::order_of and continuation: the bytes, and their place in memory
  pub order : (xs ys : List ℕ) (r r' : Order) → r ≡ order_of xs ys → r' ≡ order_of xs ys → r ≡ r'
  pub continuation : (a b r r' : Bor (List ℕ)) → Continues a b r → Continues a b r' → (r.now ≡ r'.now) × (r.ref_ptr ≡ r'.ref_ptr)
  -- single::runs::run
  pub single : (L : Lent) (budget : ℕ) (a a' : Result Single'.Answer Refused) (rs rs' ls ls' w w' : List ℕ)
      → Single.Is (single_call L budget) a rs ls w → Single.Is (single_call L budget) a' rs' ls' w'
      → (a ≡ a') × (rs ≡ rs') × (ls ≡ ls') × (w ≡ w')
  pub single_refused : (L : Lent) (budget : ℕ) → (IsSingleRun (single_call L budget).answer → ⊥) → Untouched L (single_call L budget)
  -- joint::runs::run
  pub joint : (L : Lent) (ts : List ℕ) (a a' : Result Joint'.Answer Refused) (rs rs' ls ls' w w' : List ℕ)
      → Joint.Is (joint_call L ts) a rs ls w → Joint.Is (joint_call L ts) a' rs' ls' w'
      → (a ≡ a') × (rs ≡ rs') × (ls ≡ ls') × (w ≡ w')
  pub joint_refused : (L : Lent) (ts : List ℕ) → (IsJointRun (joint_call L ts).answer → ⊥) → Untouched L (joint_call L ts)
  -- a refusal has one of its numbers, and so has a stop of the single run
  pub single_number : (L : Lent) (budget : ℕ) → SingleNumber (single_call L budget).answer
  pub joint_number : (L : Lent) (ts : List ℕ) → JointNumber (joint_call L ts).answer
  -- in a joint run so has a stop of a site: in its book after the turns
  pub book_stops : (p : Program) (L : Lent) (ts : List ℕ) → checked L.program ≡ good p → IsJointRun (joint_call L ts).answer → (P : ℕ) → SiteStops (events_of ((joint_run p L ts).sites P))
  -- and in the record that the call leaves (bytes are bytes and integers have 32 bits, as the types of the call's arguments say)
  pub record_stops : (p : Program) (L : Lent) (ts : List ℕ) → AllBytes L.program → AllIntegers L.inputs
      → checked L.program ≡ good p → IsJointRun (joint_call L ts).answer → (P : ℕ) → P < p.parties → SiteStops (events_in (record_of p.parties P (joint_call L ts)))
