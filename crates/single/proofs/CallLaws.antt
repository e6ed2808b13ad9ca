-- The single call runs, and leaves what its run leaves. Assumes nothing.
use mathlib.Core.Path.{◌≡◌, refl, sym, subst, ◌∙◌}
use mathlib.Core.Bool.{true, ◌&&◌}
use mathlib.Core.List.{List}
use Prim.Native.Nat.{ℕ, ◌/◌, ◌≤◌, ◌<◌}
use lib.Dec.{eqb}
use lib.IntN.{ℤ}
use lib.ListN.{length, replicate}
use Rattle.program.specs.Answer.{accepted, check_answer}
use Rattle.records.specs.Events.{held_back}
use Rattle.rules.specs.Single.{Single, after}
use Rattle.rules.specs.Lent.{Lent, sum, room_of, inputs_of, counts_fit, enough_lent}
use Rattle.rules.specs.Calls.{single_left, single_of, single_call}
use Rattle.refusals.specs.declared.Refusal.TheVariants.{TooLittleLent}
use Rattle.inputs.proofs.InputLaws.{counts_fit_is}
use Rattle.ledger.proofs.LentLaws.{short_room}
use Rattle.ledger.proofs.CallLaws as Call
use Rattle.single.specs.Runs.{Finishes, Drives, Is}
use Rattle.std.specs.Prelude.{Ok, Err}
use Rattle.single.specs.declared.runs.Answer.{Answer}
use Rattle.single.specs.declared.runs.Answer.TheVariants.{Stopped, Ended, Budget}

module _ (L : Lent) (n : ℕ) (xs ls w : List ℕ) (zero : w ≡ replicate (length L.work) 0) where
  finished_is : (a : Answer) (s : Single) → Finishes a (room_of n L) n L.records L.lengths s xs ls → Is (single_left n L s) (Ok a) xs ls w
  unfolding single_left
  finished_is (Stopped r p t) s (b, es, h) = rw es (Call.left_is n L b refl h zero)
  finished_is (Ended t) s (v, b, es, h) = rw es (Call.left_is n L b refl h zero)
  finished_is (Budget t) s (c, b, es, h) = rw es (Call.left_is n L b refl h zero)

  pub call_runs : (budget k : ℕ) (a : Answer) → check_answer L.program ≡ accepted n k → counts_fit n L ≡ true → enough_lent n 1 L ≡ true → held_back ≤ room_of n L
      → Drives L.program n k (room_of n L) L.counts L.inputs budget a L.records L.lengths xs ls → Is (single_call L budget) (Ok a) xs ls w
  unfolding single_call single_of
  call_runs budget k a e f s room d =
      Call.call_runs (single_of L budget) L n k e f refl s
      (λ p checks parties nodes.
      subst (λ (m : ℕ). Is (single_left m L (after (record { program = p; room = room_of m L }) (inputs_of L) budget)) (Ok a) xs ls w) (sym parties)
      (finished_is a _ (d.comes p L checks parties nodes refl refl room)))

-- too little room for a record, by the code's tests
pub short_by_room : (program counts : List ℕ) (inputs : List ℤ) (records lengths work : List ℕ) (budget n k : ℕ) → check_answer program ≡ accepted n k → (eqb (length counts) n && eqb (sum counts) (length inputs)) ≡ true → length records / n < held_back
    → Is (single_call (Call.lent program counts inputs records lengths work) budget) (Err (record { refusal = TooLittleLent; place = 0 })) records lengths work
unfolding single_call single_of
short_by_room program counts inputs records lengths work budget n k e f h =
    let L : Lent = Call.lent program counts inputs records lengths work in
    Call.call_short (single_of L budget) L n k e (sym (counts_fit_is n L) ∙ f) refl (short_room n 1 L h)
