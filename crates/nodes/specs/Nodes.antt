-- Document 01, "Program bytes": the table of kinds, and the node that a record's bytes are.
use Rattle.std.specs.Prelude.{ℕ, ◌+◌, Bool, ◌&&◌, List, [], ◌∷◌, leb, get_or, drop}
use Rattle.words.specs.Words.{number_at, integer_at}
use Rattle.parties.specs.SetBytes.{set_at}
use Rattle.limits.specs.declared.Name.{Name}
use Rattle.nodes.specs.declared.Node.{Node}
use Rattle.nodes.specs.declared.Node.TheVariants.{VAR, INT, OP, MUX, READ, WRITE, EMBED, SHARE, REVEAL, LET, CASE, PAR, CALL}
use Rattle.nodes.specs.declared.JointNode.{JointNode}
use Rattle.nodes.specs.declared.JointNode.TheVariants.{SHARE as SHARE', REVEAL as REVEAL', Neither}

-- "All others are nodes": kinds 1 to 13
abbrev pub is_node_kind : ℕ → Bool
is_node_kind kind = leb 1 kind && leb kind 13

-- "a body whose length the kind fixes": of kinds 0 to 13
unfoldable pub body_length : ℕ → ℕ
body_length kind = get_or (1 ∷ 1 ∷ 4 ∷ 3 ∷ 3 ∷ 0 ∷ 1 ∷ 1 ∷ 4 ∷ 3 ∷ 5 ∷ 5 ∷ 4 ∷ 3 ∷ []) kind 0

-- the node of a kind whose body stands at the head of b; kinds that are no node's are READ, and nobody asks for them
unfoldable pub node_of : ℕ → List ℕ → Node
node_of kind b =
    let name : ℕ → Name = λ i. record { index = get_or b i 0 } in
    let two : ℕ → ℕ = λ i. number_at 2 b i in
    get_or (READ
    ∷ VAR (name 0)
    ∷ INT (integer_at b 0)
    ∷ OP (get_or b 0 0) (name 1) (name 2)
    ∷ MUX (name 0) (name 1) (name 2)
    ∷ READ
    ∷ WRITE (name 0)
    ∷ EMBED (name 0)
    ∷ SHARE (record { index = get_or b 0 0 }) (set_at b 1) (name 3)
    ∷ REVEAL (set_at b 0) (name 2)
    ∷ LET (name 0) (two 1) (two 3)
    ∷ CASE (name 0) (two 1) (two 3)
    ∷ PAR (set_at b 0) (two 2)
    ∷ CALL (two 0) (name 2)
    ∷ []) kind READ

-- the name whose byte stands at a place
abbrev pub name_in : List ℕ → ℕ → Name
name_in p i = record { index = get_or p i 0 }

-- the node whose record starts at a place
unfoldable pub node_in : List ℕ → ℕ → Node
node_in p at = node_of (get_or p at 0) (drop (at + 1) p)

-- a node as whoever looks only for meetings sees it
unfoldable pub joint_node : Node → JointNode
joint_node (VAR x) = Neither
joint_node (INT i) = Neither
joint_node (OP o x y) = Neither
joint_node (MUX x y z) = Neither
joint_node READ = Neither
joint_node (WRITE x) = Neither
joint_node (EMBED x) = Neither
joint_node (SHARE a q x) = SHARE' a q x
joint_node (REVEAL q x) = REVEAL' q x
joint_node (LET x e1 e2) = Neither
joint_node (CASE x e1 e2) = Neither
joint_node (PAR p e) = Neither
joint_node (CALL f x) = Neither

-- a node of a meeting
abbrev pub IsJoint : JointNode → Type 0
IsJoint (SHARE' a q x) = Unit {0}
IsJoint (REVEAL' q x) = Unit {0}
IsJoint Neither = ⊥
