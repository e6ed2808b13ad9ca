-- No two refusals have the same number. Assumes nothing.
use mathlib.Core.Path.{◌≡◌, refl}
use mathlib.Core.List.{[], ◌∷◌}
use Prim.Native.Nat.{ℕ, ◌-◌}
use lib.ListN.{get_or}
use Rattle.refusals.specs.Numbers.{number_of}
use Rattle.refusals.specs.declared.Refusal.{Refusal}
use Rattle.refusals.specs.declared.Refusal.TheVariants.{BadProgram, BadCounts, BadTurn, TooLittleLent, NameUnbound, WrongValue, WrongMode, NoInput, NoRoom, TooDeep, Disagreement, NotAnEvent}

-- the refusal that has a number
pub refusal_of : ℕ → Refusal
refusal_of number =
    get_or
    (BadProgram ∷ BadCounts ∷ BadTurn ∷ TooLittleLent ∷ NameUnbound ∷ WrongValue ∷ WrongMode ∷ NoInput ∷ NoRoom ∷ TooDeep ∷ Disagreement ∷ [])
    (number - 1)
    NotAnEvent

pub refusal_of_number : (r : Refusal) → refusal_of (number_of r) ≡ r
unfolding refusal_of
refusal_of_number BadProgram = refl
refusal_of_number BadCounts = refl
refusal_of_number BadTurn = refl
refusal_of_number TooLittleLent = refl
refusal_of_number NameUnbound = refl
refusal_of_number WrongValue = refl
refusal_of_number WrongMode = refl
refusal_of_number NoInput = refl
refusal_of_number NoRoom = refl
refusal_of_number TooDeep = refl
refusal_of_number Disagreement = refl
refusal_of_number NotAnEvent = refl
