-- What the answer of a write under the room test tells. Assumes nothing.
use Rattle.std.proofs.Math.Path.{◌≡◌, refl}
use Rattle.std.specs.Prelude.{Bool, List, ℕ, ◌+◌, ◌≤◌, Some, None}
use Rattle.std.proofs.Math.Bool.{true, false, cond}
use Rattle.std.proofs.Common.{arith}
use Rattle.std.proofs.Math.ListN.{length}
use Rattle.std.proofs.lemmas.List.Edits.{sets}
use borrow.Author.Tests.{leb-true}
use Rattle.records.specs.Events.{event_bytes, held_back, has_room}
use Rattle.records.specs.Append.{Appends}
use Rattle.records.specs.declared.events.Event.{Event}

-- the event was written, and what is held back is left after it
pub record Took (e : Event) (used : ℕ) (xs : List ℕ) (n : ℕ) (ys : List ℕ) : Type 0 where
  pub had : has_room (length xs) used e ≡ true
  pub to : n ≡ used + length (event_bytes e)
  pub left : n + held_back ≤ length xs
  pub bytes : ys ≡ sets xs used (event_bytes e)

-- there was no room, and nothing was written
pub record Kept (e : Event) (used : ℕ) (xs ys : List ℕ) : Type 0 where
  pub had : has_room (length xs) used e ≡ false
  pub bytes : ys ≡ xs

module _ (e : Event) (used : ℕ) (xs ys : List ℕ) where
  pub took : (n : ℕ) → Appends e used xs (Some n) ys → Took e used xs n ys
  unfolding has_room
  took n a = go (has_room (length xs) used e) refl a.answer a.bytes
    where
      go : (t : Bool) → has_room (length xs) used e ≡ t → Some n ≡ cond t (Some (used + length (event_bytes e))) None → ys ≡ cond t (sets xs used (event_bytes e)) xs
          → Took e used xs n ys
      go true q r b =
          let p : n ≡ used + length (event_bytes e) = cc in
          record { had = q; to = p; left = omega (arith, leb-true (used + length (event_bytes e) + held_back) (length xs) q); bytes = b }
      go false q r b = absurd (let z : ◌≡◌ {A = ℕ} 0 1 = cc in omega arith)

  pub kept : Appends e used xs None ys → Kept e used xs ys
  kept a = go (has_room (length xs) used e) refl a.answer a.bytes
    where
      go : (t : Bool) → has_room (length xs) used e ≡ t → None ≡ cond t (Some (used + length (event_bytes e))) None → ys ≡ cond t (sets xs used (event_bytes e)) xs
          → Kept e used xs ys
      go true q r b = absurd (let z : ◌≡◌ {A = ℕ} 0 1 = cc in omega arith)
      go false q r b = record { had = q; bytes = b }
