-- The lengths and ranges of events, and records that are joined. Assumes nothing.
use Rattle.std.specs.Prelude.{◌≡◌, refl, List, [], ◌∷◌, ◌++◌, ℕ, ◌≤◌, length}
use Rattle.std.proofs.Common.{append_assoc, arith}
use Rattle.words.specs.Words.{low_first}
use Rattle.cells.specs.Cells.{RangedValue}
use Rattle.values.specs.declared.value.Value.{Value}
use Rattle.values.specs.declared.value.Value.TheVariants.{Nothing, Clear, Share}
use Rattle.records.specs.Events.{event_bytes, written, finished, held_back}
use Rattle.records.specs.Ranged.{Ranged}
use Rattle.records.specs.declared.events.Event.{Event}
use Rattle.records.specs.declared.events.Event.TheVariants.{Read, Wrote, Shared, Opened, Passed, Finished, Stopped}

-- how many bytes an event takes, its kind among them
abbrev pub sized : Event → ℕ
sized (Read i) = 5
sized (Wrote i) = 5
sized (Shared a q) = 4
sized (Opened q i) = 7
sized (Passed q) = 3
sized (Finished tag i l h) = 10
sized (Stopped refusal node) = 4

pub event_length : (e : Event) → length (event_bytes e) ≡ sized e
unfolding event_bytes low_first
event_length (Read i) = refl
event_length (Wrote i) = refl
event_length (Shared a q) = refl
event_length (Opened q i) = refl
event_length (Passed q) = refl
event_length (Finished tag i l h) = refl
event_length (Stopped refusal node) = refl

-- what finished takes just what is held back for it
pub finished_length : (v : Value) → length (event_bytes (finished v)) ≡ held_back
unfolding finished
finished_length Nothing = event_length _
finished_length (Clear i l) = event_length _
finished_length (Share i h l) = event_length _

pub written_append : (es fs : List Event) → written (es ++ fs) ≡ written es ++ written fs
unfolding written
written_append [] fs = refl
written_append (e ∷ es) fs = rw (written_append es fs, append_assoc)

sized_within : (e : Event) → (3 ≤ sized e) × (sized e ≤ held_back)
sized_within (Read i) = (omega arith, omega arith)
sized_within (Wrote i) = (omega arith, omega arith)
sized_within (Shared a q) = (omega arith, omega arith)
sized_within (Opened q i) = (omega arith, omega arith)
sized_within (Passed q) = (omega arith, omega arith)
sized_within (Finished tag i l h) = (omega arith, omega arith)
sized_within (Stopped refusal node) = (omega arith, omega arith)

-- no event takes more, and none less than three bytes
pub event_short : (e : Event) → length (event_bytes e) ≤ held_back
event_short e = rw (event_length e) (sized_within e).1

pub event_long : (e : Event) → 3 ≤ length (event_bytes e)
event_long e = rw (event_length e) (sized_within e).0

-- what a value in its range finishes with is in range
pub finished_ranged : (v : Value) → RangedValue v → Ranged (finished v)
unfolding finished
finished_ranged Nothing r = (omega arith, record { sfits = omega arith }, omega arith, omega arith)
finished_ranged (Clear i l) r = (omega arith, r.0, r.1, omega arith)
finished_ranged (Share i h l) r = (omega arith, record { sfits = omega arith }, r.1, r.2)
