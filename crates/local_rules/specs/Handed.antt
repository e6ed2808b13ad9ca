-- The values of the bindings that a rule is handed.
use Rattle.std.specs.Prelude.{cond, ℤ, List, [], ◌∷◌, Option, Some, None}
use Rattle.values.specs.declared.value.Value.{Value}
use Rattle.values.specs.declared.value.Held.{Held}
use Rattle.rules.specs.declared.bindings.Bindings.{Bindings}

abbrev pub values_of : Bindings → List Value
values_of b = b.x.value ∷ b.y.value ∷ b.z.value ∷ []

-- the integer of a value that is clear at exactly m
abbrev pub clear_in : Option Held → Option ℤ
clear_in (Some x) = cond x.secret None (Some x.number)
clear_in None = None
