-- Document 01, "Values and modes".
use Rattle.std.specs.Prelude.{ℕ, Bool, true, false, ◌&&◌, cond, ℤ, Option, Some, None}
use Rattle.parties.specs.Sets.{none, member, meet, is_empty, same_set}
use Rattle.parties.specs.declared.sets.PartySet.{PartySet}
use Rattle.values.specs.declared.value.Value.{Value}
use Rattle.values.specs.declared.value.Value.TheVariants.{Nothing, Clear, Share}
use Rattle.values.specs.declared.value.Held.{Held}

-- the set l that a value is at; nothing is nowhere
unfoldable pub place : Value → PartySet
place Nothing = none
place (Clear i l) = l
place (Share i h l) = l

-- the same value at the set l
unfoldable pub moved : PartySet → Value → Value
moved l Nothing = Nothing
moved l (Clear i k) = Clear i l
moved l (Share i h k) = Share i h l

-- "Restricting a value to m keeps of l the parties also in m, and gives nothing where none is left."
unfoldable pub restrict : PartySet → Value → Value
restrict m v = cond (is_empty (meet (place v) m)) Nothing (moved (meet (place v) m) v)

-- "A party's slice of a value is that value if the party is in l, else nothing." (001 drops l there; here it is kept.)
unfoldable pub slice : ℕ → Value → Value
slice P v = cond (member P (place v)) v Nothing

-- "clear and at exactly m", "shares with holders m at exactly m", or neither
unfoldable pub held : PartySet → Value → Option Held
held m Nothing = None
held m (Clear i l) = cond (same_set l m) (Some (record { secret = false; number = i })) None
held m (Share i h l) = cond (same_set l m && same_set h m) (Some (record { secret = true; number = i })) None

-- "result clear at m", "result such a share"
unfoldable pub had_by : PartySet → Bool → ℤ → Value
had_by m secret i = cond secret (Share i m m) (Clear i m)
