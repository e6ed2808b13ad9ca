-- The kind that a step of a walk tells is the byte that the event is written with first. Assumes nothing.
use mathlib.Core.Path.{◌≡◌, refl}
use Rattle.records.specs.Events.{event_bytes, kind_of}
use Rattle.records.specs.declared.events.Event.{Event}
use Rattle.records.specs.declared.events.Event.TheVariants.{Read, Wrote, Shared, Opened, Passed, Finished, Stopped}
use Rattle.threadmolar.specs.Walks.{fields_of}

pub kind_is : (e : Event) → (fields_of e).kind ≡ kind_of e
unfolding fields_of event_bytes
kind_is (Read i) = refl
kind_is (Wrote i) = refl
kind_is (Shared a q) = refl
kind_is (Opened q i) = refl
kind_is (Passed q) = refl
kind_is (Finished tag i l h) = refl
kind_is (Stopped refusal node) = refl
