-- The joint call runs, and leaves what its run leaves. Assumes nothing.
use mathlib.Core.Path.{◌≡◌, refl, sym, subst}
use mathlib.Core.Bool.{true}
use mathlib.Core.List.{List}
use mathlib.Core.Option.{none}
use Prim.Native.Nat.{ℕ, ◌/◌, ◌≤◌, ◌<◌}
use lib.IntN.{ℤ}
use lib.ListN.{length, replicate}
use Rattle.program.specs.Answer.{accepted, check_answer}
use Rattle.records.specs.Events.{held_back}
use Rattle.rules.specs.Single.{Setting}
use Rattle.rules.specs.Joint.{Turned, run_turns, start_all}
use Rattle.rules.specs.Lent.{Lent, sum, room_of, inputs_of, counts_fit, enough_lent}
use Rattle.rules.specs.Calls.{bad_turn_from, joint_left, joint_of, joint_call}
use Rattle.refusals.specs.declared.Refusal.TheVariants.{TooLittleLent}
use Rattle.ledger.proofs.LentLaws.{short_room, fit_whole}
use Rattle.ledger.proofs.CallLaws as Call
use Rattle.joint.specs.Runs.{Finishes, Drives, Is}
use Rattle.std.specs.Prelude.{Ok, Err}
use Rattle.joint.specs.declared.runs.Answer.{Answer}

module _ (L : Lent) (n : ℕ) (xs ls w : List ℕ) (zero : w ≡ replicate (length L.work) 0) where
  finished_is : (a : Answer) (t : Turned) → Finishes a (room_of n L) n t L.records L.lengths xs ls → Is (joint_left n L t) (Ok a) xs ls w
  unfolding joint_left
  finished_is a t f = Call.left_is n L _ f.answer f.holds zero

  pub call_runs : (turns : List ℕ) (k : ℕ) (a : Answer) → check_answer L.program ≡ accepted n k → counts_fit n L ≡ true → bad_turn_from n 0 turns ≡ none → enough_lent n n L ≡ true → held_back ≤ room_of n L
      → Drives L.program n k (room_of n L) L.counts L.inputs turns a L.records L.lengths xs ls → Is (joint_call L turns) (Ok a) xs ls w
  unfolding joint_call joint_of
  call_runs turns k a e f t s room d =
      Call.call_runs (joint_of L turns) L n k e f t s
      (λ p checks parties nodes.
      let S : ℕ → Setting = λ m. record { program = p; room = room_of m L } in
      subst (λ (m : ℕ). Is (joint_left m L (run_turns (S m) turns (start_all (S m) (inputs_of L)))) (Ok a) xs ls w) (sym parties)
      (finished_is a _ (d.comes p L checks parties nodes refl refl room)))

-- too little room for a record, by the code's tests
pub short_by_room : (program counts : List ℕ) (inputs : List ℤ) (records lengths work turns : List ℕ) (n k : ℕ) → check_answer program ≡ accepted n k → length counts ≡ n → sum counts ≡ length inputs → bad_turn_from n 0 turns ≡ none → length records / n < held_back
    → Is (joint_call (Call.lent program counts inputs records lengths work) turns) (Err (record { refusal = TooLittleLent; place = 0 })) records lengths work
unfolding joint_call joint_of
short_by_room program counts inputs records lengths work turns n k e a s t h =
    let L : Lent = Call.lent program counts inputs records lengths work in
    Call.call_short (joint_of L turns) L n k e (fit_whole n L a s) t (short_room n n L h)
