-- What a call asks of its turns and answers of its sites, as the laws of rounds put it. Assumes nothing.
use Prim.Native.Nat.{ℕ, zero, suc, ◌+◌, ◌<◌}
use mathlib.Core.Path.{◌≡◌, refl, ◌∙◌}
use mathlib.Core.Bool.{Bool, true, false}
use mathlib.Core.List.{List, [], ◌∷◌}
use mathlib.Core.Option.{none}
use native.Mathlib.Nat.{le_refl}
use native.Mathlib.Omega.{arith}
use Rattle.rules.specs.Joint.{Sites, is_finished, all_finished}
use Rattle.rules.specs.Calls.{bad_turn_from}
use Rattle.joint.proofs.TurnLaws.{good_first}
use Rattle.ends.proofs.EndsLaws.{finished_lack}
use Rattle.demands.specs.Rounds.{Below}

-- turns that no call refuses are parties' turns
pub turns_below : (n i : ℕ) (ts : List ℕ) → bad_turn_from n i ts ≡ none → Below n ts
turns_below n i [] e = tt
turns_below n i (P ∷ ts) e = let g = good_first n i P ts e in (g.0, turns_below n (i + 1) ts g.2)

-- all of them have finished where each has, and each where all have
pub each_finished : (n : ℕ) (J : Sites) → all_finished n J ≡ true → (X : ℕ) → X < n → is_finished (J X) ≡ true
each_finished n J e X x = go (is_finished (J X)) refl
  where
    go : (t : Bool) → is_finished (J X) ≡ t → t ≡ true
    go true q = refl
    go false q = finished_lack J n X x q ∙ e

pub all_finished_lem : (n : ℕ) (J : Sites) → ((X : ℕ) → X < n → is_finished (J X) ≡ true) → all_finished n J ≡ true
unfolding all_finished
all_finished_lem zero J h = refl
all_finished_lem (suc n) J h = rw (h n (le_refl (suc n)), all_finished_lem n J (λ X x. h X (omega arith)))
