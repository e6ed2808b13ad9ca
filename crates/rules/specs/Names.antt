-- The names of a node and what they are bound to. "Every name is read restricted to m."
use Rattle.std.specs.Prelude.{List, [], ◌∷◌, Option, Some, None, option_map, get_or, set, replicate}
use Rattle.limits.specs.Limits.{max_names}
use Rattle.limits.specs.declared.Name.{Name}
use Rattle.parties.specs.declared.sets.PartySet.{PartySet}
use Rattle.values.specs.Values.{restrict}
use Rattle.values.specs.declared.value.Value.{Value}
use Rattle.values.specs.declared.value.Value.TheVariants.{Nothing}
use Rattle.nodes.specs.declared.Node.{Node}
use Rattle.nodes.specs.declared.Node.TheVariants.{VAR, INT, OP, MUX, READ, WRITE, EMBED, SHARE, REVEAL, LET, CASE, PAR, CALL}

-- what the sixteen names are bound to, name 0 first; None is unbound
abbrev pub Names : Type 0
Names = List (Option Value)

unfoldable pub none_bound : Names
none_bound = replicate max_names None

unfoldable pub bind : Name → Value → Names → Names
bind x v b = set b x.index (Some v)

-- the value of a name in the mode m. Unbound and nothing are different things.
unfoldable pub look : PartySet → Names → Name → Option Value
look m b x = option_map (restrict m) (get_or b x.index None)

-- all names of a node at once: their values, or the first that is unbound
pub data Looked : Type 0 where
  found : List Value → Looked
  unbound : Name → Looked

abbrev pub before : Name → Option Value → Looked → Looked
before x None r = unbound x
before x (Some v) (found vs) = found (v ∷ vs)
before x (Some v) (unbound y) = unbound y

unfoldable pub look_all : PartySet → Names → List Name → Looked
look_all m b [] = found []
look_all m b (x ∷ xs) = before x (look m b x) (look_all m b xs)

-- the names that a node reads, in the order written; LET binds its x and reads none
unfoldable pub names_of : Node → List Name
names_of (VAR x) = x ∷ []
names_of (INT i) = []
names_of (OP o x y) = x ∷ y ∷ []
names_of (MUX x y z) = x ∷ y ∷ z ∷ []
names_of READ = []
names_of (WRITE x) = x ∷ []
names_of (EMBED x) = x ∷ []
names_of (SHARE a q x) = x ∷ []
names_of (REVEAL q x) = x ∷ []
names_of (LET x e1 e2) = []
names_of (CASE x e1 e2) = x ∷ []
names_of (PAR p e) = []
names_of (CALL f x) = x ∷ []

-- the value of the first name, the second, the third
abbrev pub first : List Value → Value
first vs = get_or vs 0 Nothing

abbrev pub second : List Value → Value
second vs = get_or vs 1 Nothing

abbrev pub third : List Value → Value
third vs = get_or vs 2 Nothing
