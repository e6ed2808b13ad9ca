-- Document 01, "Program bytes": the check, and the nodes of a good program.
use Rattle.std.specs.Prelude.{ℕ, zero, suc, ◌+◌, Bool, true, not, ◌&&◌, cond, List, [], ◌∷◌, map, eqb, ltb, leb, length, get_or}
use Rattle.std.proofs.Math.Option.{Option, none, some}
use Rattle.limits.specs.Limits.{max_parties, max_names}
use Rattle.parties.specs.Sets.{is_empty, within}
use Rattle.limits.specs.declared.Name.{Name}
use Rattle.limits.specs.declared.Party.{Party}
use Rattle.parties.specs.declared.sets.PartySet.{PartySet}
use Rattle.nodes.specs.Nodes.{is_node_kind, body_length, node_of}
use Rattle.nodes.specs.declared.Node.{Node}
use Rattle.nodes.specs.declared.Node.TheVariants.{VAR, INT, OP, MUX, READ, WRITE, EMBED, SHARE, REVEAL, LET, CASE, PAR, CALL}

-- ---- fields

-- "o: 0 add, 1 sub, 2 mul, 3 eq, 4 lt"
abbrev pub is_operation : ℕ → Bool
is_operation o = ltb o 5

-- "Names x, y, z are 0 to 15."
abbrev pub is_name : Name → Bool
is_name x = ltb x.index max_names

-- "Party a is below n."
abbrev pub is_party : ℕ → Party → Bool
is_party n a = ltb a.index n

-- "q is not empty"
abbrev pub is_full : ℕ → PartySet → Bool
is_full n q = within n q && not (is_empty q)

-- the fields of the node numbered `own` fit a program of n parties; "e, e1, e2 are lower than the node's own number"
unfoldable pub fits : (n own : ℕ) → Node → Bool
fits n own (VAR x) = is_name x
fits n own (INT i) = true
fits n own (OP o x y) = is_operation o && is_name x && is_name y
fits n own (MUX x y z) = is_name x && is_name y && is_name z
fits n own READ = true
fits n own (WRITE x) = is_name x
fits n own (EMBED x) = is_name x
fits n own (SHARE a q x) = is_party n a && is_full n q && is_name x
fits n own (REVEAL q x) = is_full n q && is_name x
fits n own (LET x e1 e2) = is_name x && ltb e1 own && ltb e2 own
fits n own (CASE x e1 e2) = is_name x && ltb e1 own && ltb e2 own
fits n own (PAR p e) = within n p && ltb e own
fits n own (CALL f x) = is_name x

-- ---- records

-- "There are 1 to 1,024 nodes."
abbrev pub max_nodes : ℕ
max_nodes = 1024

-- A record that begins with `kind` before the bytes bs is a good node numbered `own`; else it is of a "wrong kind, cut short, or a bad field",
-- or it is "a record after the 1,024th node".
unfoldable pub is_good : (n own kind : ℕ) → List ℕ → Bool
is_good n own kind bs = ltb own max_nodes && is_node_kind kind && leb (body_length kind) (length bs) && fits n own (node_of kind bs)

-- a node, and the byte where its record starts
pub record Placed : Type 0 where
  pub place : ℕ
  pub node : Node

-- the nodes of good records, or the byte where the first bad one starts
pub data Scanned : Type 0 where
  nodes : List Placed → Scanned
  bad : (place : ℕ) → Scanned

abbrev pub put : Placed → Scanned → Scanned
put x (nodes xs) = nodes (x ∷ xs)
put x (bad place) = bad place

-- "The check goes left to right": from a place on, where `skip` bytes of a body are still to pass and the next node is numbered `own`
unfoldable pub scan : (n own place skip : ℕ) → List ℕ → Scanned
scan n own place skip [] = nodes []
scan n own place (suc skip) (b ∷ bs) = scan n own (place + 1) skip bs
scan n own place zero (kind ∷ bs) =
    cond (is_good n own kind bs)
    (put (record { place = place; node = node_of kind bs }) (scan n (own + 1) (place + 1) (body_length kind) bs))
    (bad place)

-- ---- the whole program

-- "f is any node of the program": of k nodes
abbrev pub calls : ℕ → Node → Bool
calls k (CALL f x) = ltb f k
calls k (VAR x) = true
calls k (INT i) = true
calls k (OP o x y) = true
calls k (MUX x y z) = true
calls k READ = true
calls k (WRITE x) = true
calls k (EMBED x) = true
calls k (SHARE a q x) = true
calls k (REVEAL q x) = true
calls k (LET x e1 e2) = true
calls k (CASE x e1 e2) = true
calls k (PAR p e) = true

-- "the first CALL whose f is no node": where it starts
unfoldable pub bad_call : ℕ → List Placed → Option ℕ
bad_call k [] = none
bad_call k (x ∷ xs) = cond (calls k x.node) (bad_call k xs) (some x.place)

pub record Program : Type 0 where
  pub parties : ℕ
  pub nodes : List Node

pub data Checked : Type 0 where
  good : Program → Checked
  bad : (place : ℕ) → Checked

abbrev pub unless_bad_call : Option ℕ → Program → Checked
unless_bad_call none p = good p
unless_bad_call (some place) p = bad place

-- "With no node the place is the program's length. Last, the first CALL whose f is no node."
unfoldable pub verdict : (n total : ℕ) → Scanned → Checked
verdict n total (bad place) = bad place
verdict n total (nodes []) = bad total
verdict n total (nodes (x ∷ xs)) =
    let all = x ∷ xs in
    unless_bad_call (bad_call (length all) all) (record { parties = n; nodes = map (λ (y : Placed). y.node) all })

-- "The first record is kind 0, PARTIES, one byte n from 1 to 16."
unfoldable pub checked : List ℕ → Checked
checked [] = bad 0
checked (kind ∷ []) = bad 0
checked (kind ∷ n ∷ bs) =
    cond (eqb kind 0 && leb 1 n && leb n max_parties) (verdict n (2 + length bs) (scan n 0 2 0 bs)) (bad 0)

-- the node numbered e; the check sees to it that every e, e1, e2, f and the root is one
unfoldable pub node_at : Program → ℕ → Node
node_at p e = get_or p.nodes e READ
