-- The contract of the joint run allows one answer only, and one content of every lent byte. Assumes nothing.
use mathlib.Core.Path.{◌≡◌, refl, sym, ap, ◌∙◌}
use mathlib.Core.List.{List}
use Prim.Native.Nat.{ℕ}
use Rattle.refusals.proofs.NumberLaws.{refusal_of, refusal_of_number}
use Rattle.rules.specs.Lent.{Left}
use Rattle.rules.specs.Calls.{JointAnswer, refused, complete, still_open}
use Rattle.rules.specs.CallLaws.{one_left}
use Rattle.joint.specs.Runs.{told, Is}
use Rattle.std.specs.Prelude.{Result, Ok, Err}
use Rattle.refusals.specs.declared.Refused.{Refused}
use Rattle.joint.specs.declared.runs.Answer.{Answer}
use Rattle.joint.specs.declared.runs.Answer.TheVariants as Answer'

-- the answer that says this, so that no two answers say the same
untold : JointAnswer → Result Answer Refused
untold (refused number place) = Err (record { refusal = refusal_of number; place = place })
untold (complete turns) = Ok (Answer'.Complete turns)
untold (still_open turns) = Ok (Answer'.Open turns)

untold_told : (a : Result Answer Refused) → untold (told a) ≡ a
unfolding untold
untold_told (Err e) = rw (refusal_of_number e.refusal)
untold_told (Ok (Answer'.Complete turns)) = refl
untold_told (Ok (Answer'.Open turns)) = refl

pub one_answer : (x : Left JointAnswer) (a a' : Result Answer Refused) (rs rs' ls ls' w w' : List ℕ) → Is x a rs ls w → Is x a' rs' ls' w' → (a ≡ a') × (rs ≡ rs') × (ls ≡ ls') × (w ≡ w')
one_answer x a a' rs rs' ls ls' w w' i j =
    let (told_same, records, lengths, work) = one_left i j in
    (sym (untold_told a) ∙ ap untold told_same ∙ untold_told a', records, lengths, work)
