-- What the kind byte fixes, as the code takes it apart: the body's length, and the rule for its fields.
use Rattle.std.specs.Prelude.{ℕ, cond, [], ◌∷◌, get_or, Option, Some, None}
use Rattle.nodes.specs.Nodes.{is_node_kind, body_length}
use Rattle.program.specs.declared.kinds.Rule.{Rule}
use Rattle.program.specs.declared.kinds.Rule.TheVariants.{Free, OneName, Operation, ThreeNames, Share, Reveal, Parts, Par, Call}

-- of kinds 0 to 13
unfoldable pub rule_of : ℕ → Rule
rule_of kind = get_or (Free ∷ OneName ∷ Free ∷ Operation ∷ ThreeNames ∷ Free ∷ OneName ∷ OneName ∷ Share ∷ Reveal ∷ Parts ∷ Parts ∷ Par ∷ Call ∷ []) kind Free

unfoldable pub body_of : ℕ → Option (ℕ × Rule)
body_of kind = cond (is_node_kind kind) (Some (body_length kind, rule_of kind)) None
