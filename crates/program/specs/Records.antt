-- A record as the code reads it, at its place: what the private functions of the check answer.
use Rattle.std.specs.Prelude.{ℕ, ◌+◌, ◌≡◌, Bool, true, ◌&&◌, cond, List, eqb, ltb, leb, length, get_or, drop, Option, Some, None}
use Rattle.std.proofs.Math.Option.{none}
use Rattle.words.specs.Words.{number_at}
use Rattle.limits.specs.Limits.{max_parties}
use Rattle.parties.specs.Sets.{within}
use Rattle.parties.specs.SetBytes.{set_at}
use Rattle.nodes.specs.Nodes.{body_length, name_in, node_in}
use Rattle.program.specs.Check.{is_operation, is_name, is_full, is_good, Placed, Scanned, scan, bad_call, Checked, verdict}
use Rattle.program.specs.declared.kinds.Rule.{Rule}
use Rattle.program.specs.declared.kinds.Rule.TheVariants.{Free, OneName, Operation, ThreeNames, Share, Reveal, Parts, Par, Call}
use Rattle.nodes.specs.declared.Node.{Node}
use Rattle.nodes.specs.declared.Node.TheVariants.{VAR, INT, OP, MUX, READ, WRITE, EMBED, SHARE, REVEAL, LET, CASE, PAR, CALL}
use Rattle.program.specs.declared.check.Found.{Found}

-- the fields of a body b fit their rule: `fits`, said of the bytes
unfoldable pub rule_fits : Rule → (b : List ℕ) (n own : ℕ) → Bool
rule_fits Free b n own = true
rule_fits OneName b n own = is_name (name_in b 0)
rule_fits Operation b n own = is_operation (get_or b 0 0) && is_name (name_in b 1) && is_name (name_in b 2)
rule_fits ThreeNames b n own = is_name (name_in b 0) && is_name (name_in b 1) && is_name (name_in b 2)
rule_fits Share b n own = ltb (get_or b 0 0) n && is_full n (set_at b 1) && is_name (name_in b 3)
rule_fits Reveal b n own = is_full n (set_at b 0) && is_name (name_in b 2)
rule_fits Parts b n own = is_name (name_in b 0) && ltb (number_at 2 b 1) own && ltb (number_at 2 b 3) own
rule_fits Par b n own = within n (set_at b 0) && ltb (number_at 2 b 2) own
rule_fits Call b n own = is_name (name_in b 2)

-- a node's reach: so many nodes a program has to have for the sake of its CALL
unfoldable pub reach_of : Node → ℕ
reach_of (CALL f x) = f + 1
reach_of (VAR x) = 0
reach_of (INT i) = 0
reach_of (OP o x y) = 0
reach_of (MUX x y z) = 0
reach_of READ = 0
reach_of (WRITE x) = 0
reach_of (EMBED x) = 0
reach_of (SHARE a q x) = 0
reach_of (REVEAL q x) = 0
reach_of (LET x e1 e2) = 0
reach_of (CASE x e1 e2) = 0
reach_of (PAR p e) = 0

-- the record at a place: where the next one starts and its reach, if it is a good node numbered `own`
unfoldable pub found_at : List ℕ → (n own at : ℕ) → Option Found
found_at p n own at =
    cond (is_good n own (get_or p at 0) (drop (at + 1) p))
    (Some (record { next = at + 1 + body_length (get_or p at 0); reach = reach_of (node_in p at) }))
    None

-- the n of a good first record
unfoldable pub parties_in : List ℕ → Option ℕ
parties_in p = cond (eqb (get_or p 0 0) 0 && leb 1 (get_or p 1 0) && leb (get_or p 1 0) max_parties) (Some (get_or p 1 0)) None

-- the records after the first
abbrev pub scanned : List ℕ → ℕ → Scanned
scanned p n = scan n 0 2 0 (drop 2 p)

-- they are k good ones, and a CALL among them names none of them
pub record AllGood (p : List ℕ) (n k : ℕ) : Type 0 where
  pub all : List Placed
  pub are : scanned p n ≡ Scanned.nodes all
  pub many : length all ≡ k
  pub lost : bad_call k all ≡ none → ⊥

-- the verdict is that the program is bad at a place
abbrev pub LostAt : List ℕ → (n place : ℕ) → Type 0
LostAt p n place = verdict n (length p) (scanned p n) ≡ Checked.bad place
