-- What each member writes of an event: at a reveal not all write the same. Assumes nothing.
use mathlib.Core.Path.{◌≡◌, refl}
use mathlib.Core.Bool.{true, cond}
use mathlib.Core.List.{[], ◌∷◌}
use Prim.Native.Nat.{ℕ, ◌<◌}
use denote.Enum.{Declared.tag_of}
use types.Run.{OneOf, miss}
use lib.IntN.{ℤ}
use Rattle.parties.specs.Sets.{member, meet, all, within}
use Rattle.parties.specs.SetLaws.{below_within, below_member}
use Rattle.parties.specs.declared.sets.PartySet.{PartySet}
use Rattle.records.specs.contracts.events.Event.{the_type}
use Rattle.records.specs.declared.events.Event.{Event}
use Rattle.records.specs.declared.events.Event.TheVariants.{Read, Wrote, Shared, Opened, Passed, Finished, Stopped}
use Rattle.rules.specs.Books.{event_for}
use Rattle.ledger.specs.Writes.{of_reveal, writers, passed_of, chosen}

-- the code's two arms: a reveal, and every other kind
pub reveal_is : {A : Type 0} (f : PartySet → ℤ → A) (a : A) (e : Event) (q : PartySet) (i : ℤ) → e ≡ Opened q i → f q i ≡ of_reveal f a e
unfolding of_reveal
reveal_is f a e q i o = rw o

pub other_is : {A : Type 0} (f : PartySet → ℤ → A) (a : A) (e : Event) → OneOf (0 ∷ 1 ∷ 2 ∷ 4 ∷ 5 ∷ 6 ∷ []) (tag_of the_type e) → a ≡ of_reveal f a e
unfolding of_reveal
other_is f a (Read i) h = refl
other_is f a (Wrote i) h = refl
other_is f a (Shared b q) h = refl
other_is f a (Opened q i) h = absurd (miss (0 ∷ 1 ∷ 2 ∷ 4 ∷ 5 ∷ 6 ∷ []) 3 tt h)
other_is f a (Passed q) h = refl
other_is f a (Finished tag i l h₁) h = refl
other_is f a (Stopped refusal node) h = refl

pub for_party : (P : ℕ) (e : Event) → of_reveal (λ q i. cond (member P q) (Opened q i) (Passed q)) e e ≡ event_for P e
unfolding of_reveal event_for
for_party P (Read i) = refl
for_party P (Wrote i) = refl
for_party P (Shared a q) = refl
for_party P (Opened q i) = refl
for_party P (Passed q) = refl
for_party P (Finished tag i l h) = refl
for_party P (Stopped refusal node) = refl

chosen_is : (m : PartySet) (P : ℕ) → member P m ≡ true → (e : Event) → chosen (writers m e) e (passed_of e) P ≡ event_for P e
unfolding of_reveal event_for
chosen_is m P h (Read i) = rw h
chosen_is m P h (Wrote i) = rw h
chosen_is m P h (Shared a q) = rw h
chosen_is m P h (Opened q i) = refl
chosen_is m P h (Passed q) = rw h
chosen_is m P h (Finished tag i l h₁) = rw h
chosen_is m P h (Stopped refusal node) = rw h

-- what the code works out of an event e of the mode m before it goes through the members
pub record WorkedOut (n : ℕ) (m : PartySet) (e : Event) (s those : PartySet) (other : Event) : Type 0 where
  pub members : s ≡ meet m (all n)
  pub whole : those ≡ writers m e
  pub passing : other ≡ passed_of e

module _ {n : ℕ} {m : PartySet} {e : Event} {s those : PartySet} {other : Event} (w : WorkedOut n m e s those other) where
  pub all_below : within n s ≡ true
  all_below = rw w.members (below_within n m)

  pub member_is : (P : ℕ) → P < n → member P s ≡ member P m
  member_is P h = rw w.members (below_member P n m h)

  -- what is chosen for a member is its event
  pub event_is : (P : ℕ) → member P m ≡ true → chosen those e other P ≡ event_for P e
  event_is P i = rw (w.whole, w.passing) (chosen_is m P i e)
