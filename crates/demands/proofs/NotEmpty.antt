-- The premises of demands 2 and 3 are met by document 01's worked example, by computing. Assumes nothing.
use Prim.Native.Nat.{ℕ, zero, suc, ◌<◌}
use mathlib.Core.Path.{◌≡◌, refl, sym, ap, ◌∙◌, subst}
use mathlib.Core.Bool.{Bool, true, ◌&&◌}
use mathlib.Core.List.{List, [], ◌∷◌, ◌++◌, Memᴰ}
use mathlib.Core.Logic.{inl, inr}
use native.Mathlib.Omega.{arith}
use lib.IntN.{pos}
use lib.Dec.{ltb}
use lib.ListN.{length, get_or}
use borrow.Author.Tests.{ltb-true}
use Rattle.numbers.specs.Integers.{reduced}
use Rattle.words.specs.Words.{number_at}
use Rattle.program.specs.Check.{good, checked}
use Rattle.program.specs.ScanLaws.{both}
use Rattle.refusals.specs.Numbers.{too_little_lent, disagreement}
use Rattle.walk.specs.Walk.{body_width, event_from, is_whole, walk_from, walk}
use Rattle.records.specs.declared.events.Event.{Event}
use Rattle.records.specs.declared.events.Event.TheVariants.{Read, Wrote, Shared, Opened, Passed, Finished, Stopped}
use Rattle.rules.specs.Lent.{Lent, room_of, sum, inputs_of}
use Rattle.rules.specs.Calls.{JointAnswer, ended_after, complete, still_open, setting_of, single_call, joint_call}
use Rattle.rules.specs.Worked.{program, lent, turns, record0, record1, single, joint}
use Rattle.invariants.specs.Accepted.{IsJointRun}
use Rattle.invariants.specs.InRange.{Every, AllBytes, AllIntegers}
use Rattle.invariants.specs.Left.{record_of}
use Rattle.invariants.proofs.BeginsLaws.{begins_refl}
use Rattle.demands.specs.Rounds.{Rounds, enough, round, turns_of, turns_for, sum_below}
use Rattle.demands.specs.Walked.{events_in}
use Rattle.demands.specs.Opened.{EndsIn11, Agree}
use Rattle.demands.specs.Demand2.{Equal, Follow}
use Rattle.demands.specs.Demand3.{opened_in, Alike}
use Rattle.demands.specs.NotEmpty.{example, least, more, other, short, in_rounds, early, NotEmpty}
use Rattle.demands.proofs.Demand2.{demand_2}
use Rattle.demands.proofs.Demand3.{demand_3}

-- ---- what the calls leave

-- the two records of the run that ends early
abbrev early0 : List ℕ
early0 = 0x01 ∷ 0x08 ∷ 0x00 ∷ 0x00 ∷ 0x00 ∷ 0x03 ∷ 0x00 ∷ 0x02 ∷ 0x00 ∷ []

abbrev early1 : List ℕ
early1 = 0x03 ∷ 0x00 ∷ 0x02 ∷ 0x00 ∷ []

-- a call, by what the statements ask of it
record Leaves (L : Lent) (ts : List ℕ) (answer : JointAnswer) (a b : List ℕ) : Type 0 where
  answers : (joint_call L ts).answer ≡ answer
  site0 : record_of 2 0 (joint_call L ts) ≡ a
  site1 : record_of 2 1 (joint_call L ts) ≡ b

refuses_short : (joint_call short turns).answer ≡ JointAnswer.refused too_little_lent 0
unfolding joint short
refuses_short = refl

leaves_first : Leaves more turns (complete 9) record0 record1
unfolding joint more record_of
leaves_first = record { answers = refl; site0 = refl; site1 = refl }

leaves_early : Leaves other early (still_open 8) early0 early1
unfolding joint other record_of
leaves_early = record { answers = refl; site0 = refl; site1 = refl }

-- ---- demand 2

single_ends : (single_call least 100).answer ≡ ended_after 6
unfolding single least
single_ends = refl

equal : Equal example least more
unfolding single example least more
equal = record { checks = refl; program = refl; counts = refl; inputs = refl; room = refl }

-- each of the two parties has a turn, in either order
up : (P : ℕ) → P < 2 → Memᴰ P (0 ∷ 1 ∷ [])
up zero l = Memᴰ.head refl
up (suc zero) l = Memᴰ.tail (Memᴰ.head refl)
up (suc (suc P)) l = absurd (omega arith)

down : (P : ℕ) → P < 2 → Memᴰ P (1 ∷ 0 ∷ [])
down zero l = Memᴰ.tail (Memᴰ.head refl)
down (suc zero) l = Memᴰ.head refl
down (suc (suc P)) l = absurd (omega arith)

six_rounds : Rounds 2 6 in_rounds
six_rounds =
    round (0 ∷ 1 ∷ []) up
    (round (1 ∷ 0 ∷ []) down (round (0 ∷ 1 ∷ []) up (round (1 ∷ 0 ∷ []) down (round (0 ∷ 1 ∷ []) up (round (1 ∷ 0 ∷ []) down enough)))))

accepted : IsJointRun (joint_call more in_rounds).answer
unfolding joint more
accepted = tt

-- two turns for each LET and for PAR, one for READ, for SHARE and for REVEAL
nine : turns_of (setting_of example least) (inputs_of least) 6 ≡ 9
unfolding single example least turns_of turns_for sum_below
nine = refl

follow : Follow example least more 100 6
follow = demand_2 example least more 100 6 equal single_ends

rounds_answer : (joint_call more in_rounds).answer ≡ complete 9
unfolding example
rounds_answer = follow.rounds in_rounds accepted six_rounds ∙ ap complete nine

-- the rounds leave what the single run leaves, and so what the first turns leave
rounds_record : (P : ℕ) → P < 2 → record_of 2 P (joint_call more in_rounds) ≡ record_of 2 P (joint_call more turns)
unfolding example
rounds_record P l = follow.same_record in_rounds 9 rounds_answer P l ∙ sym (follow.same_record turns 9 leaves_first.answers P l)

sites_differ : record_of 2 0 (joint_call more in_rounds) ≡ record_of 2 1 (joint_call more in_rounds) → ⊥
sites_differ e =
    let k : record0 ≡ record1 = sym (rounds_record 0 (omega arith) ∙ leaves_first.site0) ∙ e ∙ rounds_record 1 (omega arith) ∙ leaves_first.site1 in
    let z : ◌≡◌ {A = ℕ} 1 3 = ap (λ (bs : List ℕ). get_or bs 0 0) k in
    omega arith

-- ---- demand 3

-- the events of the records, none of which is a stop
abbrev Calm : Event → Type 0
Calm (Read i) = Unit {0}
Calm (Wrote i) = Unit {0}
Calm (Shared a q) = Unit {0}
Calm (Opened q i) = Unit {0}
Calm (Passed q) = Unit {0}
Calm (Finished tag i l h) = Unit {0}
Calm (Stopped refusal node) = ⊥

calm_ends : (es : List Event) → Every Calm es → EndsIn11 es → ⊥
calm_ends es c e = go e.before (subst (λ (fs : List Event). Every Calm fs) e.is c)
  where
    go : (fs : List Event) → Every Calm (fs ++ Stopped disagreement e.node ∷ []) → ⊥
    go [] h = h.0
    go (f ∷ fs) h = go fs h.1

calm0 : Every Calm (events_in record0)
unfolding body_width event_from is_whole walk_from walk number_at
calm0 = (tt, (tt, (tt, (tt, tt))))

calm1 : Every Calm (events_in record1)
unfolding body_width event_from is_whole walk_from walk number_at
calm1 = (tt, (tt, (tt, tt)))

calm_early : Every Calm (events_in early1)
unfolding body_width event_from is_whole walk_from walk number_at
calm_early = (tt, tt)

opened0 : opened_in record0 ≡ pos 7 ∷ []
unfolding body_width event_from is_whole walk_from walk number_at reduced
opened0 = refl

opened1 : opened_in record1 ≡ []
unfolding body_width event_from is_whole walk_from walk number_at reduced
opened1 = refl

-- the bytes of the program are bytes, by a test
are_bytes : List ℕ → Bool
are_bytes [] = true
are_bytes (b ∷ bs) = ltb b 256 && are_bytes bs

all_bytes : (bs : List ℕ) → are_bytes bs ≡ true → AllBytes bs
unfolding are_bytes
all_bytes [] e = tt
all_bytes (b ∷ bs) e = let h = both (ltb b 256) (are_bytes bs) e in (ltb-true b 256 h.0, all_bytes bs h.1)

are_bytes_lem : AllBytes program
unfolding program are_bytes
are_bytes_lem = all_bytes program refl

checks : checked program ≡ good example
unfolding single example
checks = refl

-- from a call with a known answer and known records
ran : {a b : JointAnswer} → a ≡ b → IsJointRun b → IsJointRun a
ran e r = subst IsJointRun (sym e) r

calm : {xs ys : List ℕ} → xs ≡ ys → Every Calm (events_in ys) → Every Calm (events_in xs)
calm e c = rw e c

opened_1 : Agree (opened_in (record_of 2 1 (joint_call more turns))) (opened_in (record_of 2 1 (joint_call other early)))
opened_1 = inl (rw (leaves_first.site1, opened1) (record { rest = opened_in (record_of 2 1 (joint_call other early)); is = refl }))

opened_0 : Agree (opened_in (record_of 2 0 (joint_call more turns))) (opened_in (record_of 2 0 (joint_call more in_rounds)))
opened_0 = inl (rw (rounds_record 0 (omega arith)) (begins_refl (opened_in (record_of 2 0 (joint_call more turns)))))

-- the first call and another one, at a party whose records have no stop
alike : (P : ℕ) (L : Lent) (ts : List ℕ) → P < 2 → L.program ≡ program → AllIntegers L.inputs → IsJointRun (joint_call L ts).answer → room_of 2 L ≡ room_of 2 more → inputs_of more P ≡ inputs_of L P
    → Agree (opened_in (record_of 2 P (joint_call more turns))) (opened_in (record_of 2 P (joint_call L ts)))
    → Every Calm (events_in (record_of 2 P (joint_call more turns))) → Every Calm (events_in (record_of 2 P (joint_call L ts))) → Alike example P more L turns ts
unfolding example lent more
alike P L ts party same integers run room inputs opened ends ends' =
    record {
      bytes = are_bytes_lem;
      integers = (record { sfits = omega arith }, tt);
      integers' = integers;
      checks = checks;
      program = same;
      party = party;
      run = ran leaves_first.answers tt;
      run' = run;
      room = room;
      inputs = inputs;
      opened = opened;
      ends = calm_ends _ ends;
      ends' = calm_ends _ ends';
    }

alike_1 : Alike example 1 more other turns early
unfolding lent more other room_of inputs_of sum
alike_1 =
    alike 1 other early (omega arith) refl (record { sfits = omega arith }, tt) (ran leaves_early.answers tt) refl refl opened_1
    (calm leaves_first.site1 calm1) (calm leaves_early.site1 calm_early)

alike_0 : Alike example 0 more more turns in_rounds
unfolding lent more
alike_0 =
    alike 0 more in_rounds (omega arith) refl (record { sfits = omega arith }, tt) accepted refl refl opened_0
    (calm leaves_first.site0 calm0) (calm (rounds_record 0 (omega arith) ∙ leaves_first.site0) calm0)

-- the inputs 7 and 8 stand in the records
apart : Agree record0 early0 → ⊥
apart (inl h) = let z : ◌≡◌ {A = ℕ} 7 8 = ap (λ (bs : List ℕ). get_or bs 1 0) h.is in omega arith
apart (inr h) = let z : ◌≡◌ {A = ℕ} 8 7 = ap (λ (bs : List ℕ). get_or bs 1 0) h.is in omega arith

pub not_empty : NotEmpty
unfolding example
not_empty =
    record {
      refuses = refuses_short;
      equal = equal;
      ends = single_ends;
      rounds = six_rounds;
      accepted = accepted;
      rounds_answer = rounds_answer;
      first_answer = leaves_first.answers;
      sites_differ = sites_differ;
      alike_1 = alike_1;
      early_answer = leaves_early.answers;
      agree_1 = demand_3 example 1 more other turns early alike_1;
      length_first = ap length leaves_first.site1;
      length_early = ap length leaves_early.site1;
      apart_0 = λ h. apart (rw (leaves_first.site0, leaves_early.site0) at h);
      alike_0 = alike_0;
      opened_first = ap opened_in leaves_first.site0 ∙ opened0;
      opened_rounds = ap opened_in (rounds_record 0 (omega arith) ∙ leaves_first.site0) ∙ opened0;
    }
