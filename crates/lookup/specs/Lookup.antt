-- What a lookup finds, in the rules' terms.
use Rattle.std.specs.Prelude.{List, [], ◌∷◌, Option, Some, None, Result, Ok, Err, take}
use Rattle.limits.specs.declared.Name.{Name}
use Rattle.parties.specs.declared.sets.PartySet.{PartySet}
use Rattle.values.specs.declared.value.Value.{Value}
use Rattle.nodes.specs.declared.Node.TheVariants.{SHARE, REVEAL}
use Rattle.nodes.specs.declared.JointNode.{JointNode}
use Rattle.nodes.specs.declared.JointNode.TheVariants.{SHARE as SHARE', REVEAL as REVEAL', Neither}
use Rattle.rules.specs.Names.{Names, Looked, found, unbound, first, second, third}
use Rattle.rules.specs.Rules.{rule}
use Rattle.rules.specs.declared.bindings.Binding.{Binding}
use Rattle.rules.specs.declared.bindings.Bindings.{Bindings}
use Rattle.rules.specs.declared.effects.View.{View}
use Rattle.rules.specs.declared.effects.Effect.{Effect}
use Rattle.rules.specs.declared.effects.Effect.TheVariants.{Refuse, Goes, Reads, Writes, Meets}
use Rattle.local_rules.specs.Handed.{values_of}
use Rattle.lookup.specs.declared.Unbound.{Unbound}
use Rattle.lookup.specs.declared.Reading.{Reading}

-- one name
abbrev pub sought_of : Name → Option Value → Result Binding Unbound
sought_of x None = Err (record { name = x })
sought_of x (Some v) = Ok (record { name = x; value = v })

-- the names of a reading
abbrev pub listed : Reading → List Name
listed r = take r.many (r.x ∷ r.y ∷ r.z ∷ [])

-- a rule looks at the first three values, and at as many of them as its node has names
abbrev pub three : List Value → List Value
three vs = first vs ∷ second vs ∷ third vs ∷ []

unfoldable pub padded : Looked → Looked
padded (found vs) = found (three vs)
padded (unbound x) = unbound x

-- what the code's answer says
abbrev pub told : Result Bindings Unbound → Looked
told (Ok b) = found (values_of b)
told (Err u) = unbound u.name

-- what the rule of a joint node asks for; of another nobody asks it here
abbrev pub joint_rule : View → JointNode → PartySet → Names → Effect
joint_rule view (SHARE' a q x) m b = rule view (SHARE a q x) m b
joint_rule view (REVEAL' q x) m b = rule view (REVEAL q x) m b
joint_rule view Neither m b = Reads

-- an effect that is no meeting
abbrev pub Unmet : Effect → Type 0
Unmet (Refuse refusal) = Unit {0}
Unmet (Goes mv) = Unit {0}
Unmet Reads = Unit {0}
Unmet (Writes i) = Unit {0}
Unmet (Meets mt o) = ⊥
