-- A change of every value that names are bound to: a party's slices are such a change, and so is to hide numbers.
use Rattle.std.specs.Prelude.{map, option_map}
use Rattle.values.specs.declared.value.Value.{Value}
use Rattle.rules.specs.Names.{Names, Looked, found, unbound}
use Rattle.rules.specs.Moves.{Frame}

abbrev pub on_names : (Value → Value) → Names → Names
on_names f b = map (option_map f) b

abbrev pub on_looked : (Value → Value) → Looked → Looked
on_looked f (found vs) = found (map f vs)
on_looked f (unbound x) = unbound x

abbrev pub on_frame : (Value → Value) → Frame → Frame
on_frame f r = record { name = r.name; body = r.body; mode = r.mode; names = on_names f r.names }
