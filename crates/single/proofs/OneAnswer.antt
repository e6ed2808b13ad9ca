-- The contract of the single run allows one answer only, and one content of every lent byte. Assumes nothing.
use mathlib.Core.Path.{◌≡◌, refl, sym, ap, ◌∙◌}
use mathlib.Core.List.{List}
use Prim.Native.Nat.{ℕ}
use Rattle.refusals.proofs.NumberLaws.{refusal_of, refusal_of_number}
use Rattle.rules.specs.Lent.{Left}
use Rattle.rules.specs.Calls.{SingleAnswer, refused, stopped_at, ended_after, budget_used}
use Rattle.rules.specs.CallLaws.{one_left}
use Rattle.single.specs.Runs.{told, Is}
use Rattle.std.specs.Prelude.{Result, Ok, Err}
use Rattle.refusals.specs.declared.Refused.{Refused}
use Rattle.single.specs.declared.runs.Answer.{Answer}
use Rattle.single.specs.declared.runs.Answer.TheVariants as Answer'

-- the answer that says this, so that no two answers say the same
untold : SingleAnswer → Result Answer Refused
untold (refused number place) = Err (record { refusal = refusal_of number; place = place })
untold (stopped_at number node steps) = Ok (Answer'.Stopped (refusal_of number) node steps)
untold (ended_after steps) = Ok (Answer'.Ended steps)
untold (budget_used steps) = Ok (Answer'.Budget steps)

untold_told : (a : Result Answer Refused) → untold (told a) ≡ a
unfolding untold
untold_told (Err e) = rw (refusal_of_number e.refusal)
untold_told (Ok (Answer'.Stopped refusal node steps)) = rw (refusal_of_number refusal)
untold_told (Ok (Answer'.Ended steps)) = refl
untold_told (Ok (Answer'.Budget steps)) = refl

pub one_answer : (x : Left SingleAnswer) (a a' : Result Answer Refused) (rs rs' ls ls' w w' : List ℕ) → Is x a rs ls w → Is x a' rs' ls' w' → (a ≡ a') × (rs ≡ rs') × (ls ≡ ls') × (w ≡ w')
one_answer x a a' rs rs' ls ls' w w' i j =
    let (told_same, records, lengths, work) = one_left i j in
    (sym (untold_told a) ∙ ap untold told_same ∙ untold_told a', records, lengths, work)
