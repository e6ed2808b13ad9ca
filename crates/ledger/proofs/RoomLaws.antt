-- Who has room: the test of all members, by the sizes of what they write. Assumes nothing.
use mathlib.Core.Path.{◌≡◌, refl, sym, ◌∙◌}
use mathlib.Core.Bool.{Bool, true, false, cond}
use mathlib.Core.List.{List}
use Prim.Native.Nat.{ℕ, ◌<◌}
use lib.ListN.{length, get_or}
use Rattle.parties.specs.Sets.{member}
use Rattle.parties.specs.declared.sets.PartySet.{PartySet}
use Rattle.records.specs.Events.{event_bytes, fits_after, has_room}
use Rattle.records.specs.declared.events.Event.{Event}
use Rattle.rules.specs.Books.{event_for}
use Rattle.rules.specs.Single.{all_of}
use Rattle.invariants.proofs.AllOfLaws.{all_lack, all_member, all_by}
use Rattle.ledger.specs.Ledger.{rooms_for}
use Rattle.ledger.proofs.RevealLaws.{WorkedOut, member_is, event_is}

-- the code's test of one party
abbrev pub fitting : (R : ℕ) (those : PartySet) (own other : ℕ) (ls : List ℕ) → ℕ → Bool
fitting R those own other ls P = fits_after R (get_or ls P 0) (cond (member P those) own other)

-- the parties of s below k pass it
abbrev pub Fit : (R : ℕ) (those : PartySet) (own other : ℕ) (ls : List ℕ) (s : PartySet) → ℕ → Type 0
Fit R those own other ls s k = all_of k s (fitting R those own other ls) ≡ true

abbrev has : (R : ℕ) (e : Event) (ls : List ℕ) → ℕ → Bool
has R e ls P = has_room R (get_or ls P 0) (event_for P e)

pub rooms_each : (R n : ℕ) (m : PartySet) (e : Event) (ls : List ℕ) → rooms_for R n m e ls ≡ true → (P : ℕ) → P < n → member P m ≡ true → has_room R (get_or ls P 0) (event_for P e) ≡ true
unfolding rooms_for
rooms_each R n m e ls r P h i = all_member m (has R e ls) n r P h i

module _ {n : ℕ} {m : PartySet} {e : Event} {s those : PartySet} {other : Event} (w : WorkedOut n m e s those other)
    (R own rest : ℕ) (ls : List ℕ) (a : own ≡ length (event_bytes e)) (b : rest ≡ length (event_bytes other)) where
  fits_is : (P : ℕ) → member P m ≡ true → fitting R those own rest ls P ≡ has R e ls P
  unfolding has_room
  fits_is P i = rw (a, b, ← event_is w P i) (go (member P those))
    where
      go : (t : Bool) → fits_after R (get_or ls P 0) (cond t (length (event_bytes e)) (length (event_bytes other))) ≡ fits_after R (get_or ls P 0) (length (event_bytes (cond t e other)))
      go true = refl
      go false = refl

  pub rooms_all : Fit R those own rest ls s n → true ≡ rooms_for R n m e ls
  unfolding rooms_for
  rooms_all r = sym (all_by m (has R e ls) n (λ P h i. sym (fits_is P i) ∙ all_member s (fitting R those own rest ls) n r P h (member_is w P h ∙ i)))

  pub rooms_lack : (P : ℕ) → P < n → member P s ≡ true → fitting R those own rest ls P ≡ false → false ≡ rooms_for R n m e ls
  unfolding rooms_for
  rooms_lack P h i f = let j : member P m ≡ true = sym (member_is w P h) ∙ i in all_lack m (has R e ls) n P h (rw (j, ← fits_is P j, f))
