-- What one party's write leaves, and which events the parties write.
use Rattle.std.specs.Prelude.{◌≡◌, ℕ, ◌+◌, ◌*◌, cond, List, [], ◌∷◌, leb, ℤ, length, get_or, set}
use Rattle.std.proofs.lemmas.List.Edits.{sets}
use Rattle.parties.specs.Sets.{member}
use Rattle.parties.specs.declared.sets.PartySet.{PartySet}
use Rattle.values.specs.Values.{slice}
use Rattle.values.specs.declared.value.Value.{Value}
use Rattle.records.specs.Events.{finished, held_back}
use Rattle.records.specs.declared.events.Event.{Event}
use Rattle.records.specs.declared.events.Event.TheVariants.{Read, Wrote, Shared, Opened, Passed, Finished, Stopped}

-- party P wrote the bytes vs after those that its length says are used
pub record Writes (R P : ℕ) (vs xs ls xs' ls' : List ℕ) : Type 0 where
  pub bytes : xs' ≡ sets xs (P * R + get_or ls P 0) vs
  pub lengths : ls' ≡ set ls P (get_or ls P 0 + length vs)

-- at a reveal f of whom it is opened to and of its number, at any other event a
unfoldable pub of_reveal : {A : Type 0} → (PartySet → ℤ → A) → A → Event → A
of_reveal f a (Read i) = a
of_reveal f a (Wrote i) = a
of_reveal f a (Shared b q) = a
of_reveal f a (Opened q i) = f q i
of_reveal f a (Passed q) = a
of_reveal f a (Finished tag i l h) = a
of_reveal f a (Stopped refusal node) = a

-- those who write e as it is: at a reveal whom it is opened to, else all of the mode m; and what the others write
abbrev pub writers : PartySet → Event → PartySet
writers m e = of_reveal (λ q i. q) m e

abbrev pub passed_of : Event → Event
passed_of e = of_reveal (λ q i. Passed q) e e

abbrev pub chosen : (those : PartySet) (e other : Event) → ℕ → Event
chosen those e other P = cond (member P those) e other

-- what P writes of the last value after u bytes: its slice, where what is held back is left
unfoldable pub finishing : (R : ℕ) → Value → (P u : ℕ) → List Event
finishing R v P u = cond (leb (u + held_back) R) (finished (slice P v) ∷ []) []
