-- Control: the node, the mode, the bindings and the frames; and how a move changes it. The single run and the sites share it.
use Rattle.std.specs.Prelude.{ℕ, ◌-◌, cond, List, [], ◌∷◌, ltb, length}
use Rattle.limits.specs.Limits.{max_frames}
use Rattle.parties.specs.Sets.{all}
use Rattle.limits.specs.declared.Name.{Name}
use Rattle.parties.specs.declared.sets.PartySet.{PartySet}
use Rattle.values.specs.declared.value.Value.{Value}
use Rattle.program.specs.Check.{Program}
use Rattle.rules.specs.Names.{Names, none_bound, bind}
use Rattle.rules.specs.declared.effects.Move.{Move}
use Rattle.rules.specs.declared.effects.Move.TheVariants.{Hand, Down, Goto, Enter, Call}

-- "LET: puts down a frame (x, e2, m, bindings)"
pub record Frame : Type 0 where
  pub name : Name
  pub body : ℕ
  pub mode : PartySet
  pub names : Names

-- the frames lie top first
pub record Control : Type 0 where
  pub node : ℕ
  pub mode : PartySet
  pub names : Names
  pub frames : List Frame

-- "The mode m is the set of parties now running; at the start all n, with no name bound"; "the last is the root"
unfoldable pub start : Program → Control
start p = record { node = length p.nodes - 1; mode = all p.parties; names = none_bound; frames = [] }

pub data Next : Type 0 where
  on : Control → Next
  ends : Value → Next
  full : Next

-- "the top frame is removed, its mode and bindings return, its name is bound to the value, and its body is next. With no frame the run ends
-- with that value." (In 001 the last atom is not evaluated; here it is a step.)
unfoldable pub hand_back : Value → List Frame → Next
hand_back v [] = ends v
hand_back v (f ∷ fs) = on (record { node = f.body; mode = f.mode; names = bind f.name v f.names; frames = fs })

unfoldable pub move : Move → Control → Next
move (Hand v) c = hand_back v c.frames
move (Down x e1 e2) c =
    cond (ltb (length c.frames) max_frames)
    (on (record { node = e1; mode = c.mode; names = c.names; frames = record { name = x; body = e2; mode = c.mode; names = c.names } ∷ c.frames }))
    full
move (Goto e) c = on (record { node = e; mode = c.mode; names = c.names; frames = c.frames })
move (Enter m e) c = on (record { node = e; mode = m; names = c.names; frames = c.frames })
move (Call f v) c = on (record { node = f; mode = c.mode; names = bind (record { index = 0 }) v none_bound; frames = c.frames })
