-- The ranges that the types of the code give the fields of an event.
use Rattle.std.specs.Prelude.{◌<◌, ◌^◌, List, [], ◌∷◌}
use Rattle.std.specs.Int.{w32}
use Rattle.std.proofs.Common.{SFits}
use Rattle.records.specs.declared.events.Event.{Event}
use Rattle.records.specs.declared.events.Event.TheVariants.{Read, Wrote, Shared, Opened, Passed, Finished, Stopped}

-- integers of 32 bits, bytes, and sets and nodes of two bytes
abbrev pub Ranged : Event → Type 0
Ranged (Read i) = SFits w32 i
Ranged (Wrote i) = SFits w32 i
Ranged (Shared a q) = (a.index < 2 ^ 8) × (q.bits < 2 ^ 16)
Ranged (Opened q i) = (q.bits < 2 ^ 16) × SFits w32 i
Ranged (Passed q) = q.bits < 2 ^ 16
Ranged (Finished tag i l h) = (tag < 2 ^ 8) × SFits w32 i × (l.bits < 2 ^ 16) × (h.bits < 2 ^ 16)
Ranged (Stopped refusal node) = (refusal < 2 ^ 8) × (node < 2 ^ 16)

-- of every event of a record
abbrev pub AllRanged : List Event → Type 0
AllRanged [] = Unit {0}
AllRanged (e ∷ es) = Ranged e × AllRanged es
