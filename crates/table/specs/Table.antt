-- The table of places at the head of an area.
use Rattle.std.specs.Prelude.{◌≡◌, ℕ, ◌*◌, ◌<◌, cond, List, ltb}
use Rattle.words.specs.Words.{number_at}
use Rattle.nodes.specs.Nodes.{node_in}
use Rattle.places.specs.Places.{place_of}
use Rattle.nodes.specs.declared.Node.{Node}
use Rattle.nodes.specs.declared.Node.TheVariants.{READ}
use Rattle.rules.specs.Names.{none_bound}
use Rattle.area.specs.Levels.{names_at}

-- the places of the first so many nodes of a program's bytes stand at the head of w
abbrev pub PlacesIn : List ℕ → ℕ → List ℕ → Type 0
PlacesIn bs nodes w = (k : ℕ) → k < nodes → number_at 2 w (2 * k) ≡ place_of bs k

-- the node numbered k, by the table
unfoldable pub node_by : List ℕ → ℕ → List ℕ → ℕ → Node
node_by bs nodes w k = cond (ltb k nodes) (node_in bs (number_at 2 w (2 * k))) READ

-- an area at the start of a run
pub record Prepared (bs : List ℕ) (nodes : ℕ) (w : List ℕ) : Type 0 where
  pub places : PlacesIn bs nodes w
  pub fresh : names_at w 0 ≡ none_bound
