-- An area that was zeroed and given its table of places; and what keeps the table. Assumes nothing.
use mathlib.Core.Path.{◌≡◌, sym, ap, ◌∙◌}
use mathlib.Core.List.{List, ◌++◌}
use Prim.Native.Nat.{ℕ, ◌+◌, ◌*◌, ◌≤◌, ◌<◌}
use native.Mathlib.Omega.{arith}
use borrow.Author.Tests.{lt-ltb, le-ltb}
use native.Mathlib.Decide.{dec_lt}
use lib.ListN.{length, get_or, take, drop, replicate, get_or-append, get_or-eq_default}
use lib.Seq.{sets, length-sets, get_or-take, get_or-append-add, get_or-drop}
use Rattle.words.specs.Words.{number_at}
use Rattle.words.proofs.WordLaws.{number_same}
use Rattle.nodes.specs.Nodes.{node_in}
use Rattle.program.specs.Check.{Program, good, checked, node_at}
use Rattle.places.specs.Places.{Tabled}
use Rattle.places.specs.GoodLaws.{good_program}
use Rattle.nodes.specs.declared.Node.TheVariants.{READ}
use Rattle.limits.specs.Limits.{max_names}
use Rattle.cells.specs.Cells.{width}
use Rattle.area.specs.Levels.{table_size, level_at}
use Rattle.table.specs.Table.{PlacesIn, node_by, Prepared}
use Rattle.area.specs.Rows.{row_size}
use Rattle.area.proofs.LevelLaws.{names_fresh}
use Rattle.area.proofs.MoveLaws.{zeros_back, zeros_at}

-- the bytes w with others in place of the first level's cells
abbrev pub patched : List ℕ → List ℕ → List ℕ
patched w ys = take table_size w ++ (ys ++ drop 144 (drop table_size w))

-- zeros in place of them
module _ (w ys : List ℕ) (long : row_size ≤ length w) (e : ys ≡ replicate (length (take 144 (drop table_size w))) 0) where
  fits : table_size + 144 ≤ length w
  fits = omega arith

  back : patched w ys ≡ sets w table_size ys
  back = zeros_back table_size 144 w ys fits e

  pub cleared_length : length (patched w ys) ≡ length w
  cleared_length = ap length back ∙ length-sets w table_size ys

  pub cleared : (k : ℕ) → k < max_names * width → get_or (patched w ys) (table_size + k) 0 ≡ 0
  cleared k h = ap (λ (x : List ℕ). get_or x (table_size + k) 0) back ∙ zeros_at table_size 144 w ys fits e k (omega arith)

pub prepared : (bs : List ℕ) (nodes : ℕ) (ys z : List ℕ) → nodes ≤ 1024 → ((k : ℕ) → k < max_names * width → get_or z (table_size + k) 0 ≡ 0) → length ys ≡ table_size
    → Tabled bs nodes (take table_size z) ys → Prepared bs nodes (ys ++ drop table_size z)
prepared bs nodes ys z few e l t =
    record {
      places = λ k h. number_same 2 (ys ++ drop table_size z) (2 * k) ys (2 * k) (λ i j. get_or-append ys (drop table_size z) 0 (2 * k + i) (omega arith)) ∙ t.places k h;
      fresh = names_fresh (ys ++ drop table_size z) 0 λ k h.
          let at : level_at 0 + k ≡ length ys + k = omega arith in
          ap (λ (i : ℕ). get_or (ys ++ drop table_size z) i 0) at ∙ get_or-append-add ys (drop table_size z) k 0 ∙ get_or-drop table_size z k 0 ∙ e k h;
    }

-- whoever keeps the bytes of the table keeps the places
pub places_kept : (bs : List ℕ) (nodes : ℕ) (w w' : List ℕ) → nodes ≤ 1024 → take table_size w' ≡ take table_size w → PlacesIn bs nodes w → PlacesIn bs nodes w'
places_kept bs nodes w w' few e p k h =
    number_same 2 w' (2 * k) w (2 * k)
    (λ i j.
    sym (get_or-take table_size w' (2 * k + i) 0 (omega arith))
    ∙ ap (λ (x : List ℕ). get_or x (2 * k + i) 0) e
    ∙ get_or-take table_size w (2 * k + i) 0 (omega arith))
    ∙ p k h

-- the node at the place that the table has, and past its last place
module _ (bs : List ℕ) (nodes : ℕ) (w : List ℕ) (k : ℕ) where
  pub at_its_place : {at : ℕ} → k < nodes → at ≡ number_at 2 w (2 * k) → node_in bs at ≡ node_by bs nodes w k
  unfolding node_by
  at_its_place h e = rw (lt-ltb k nodes h, e)

  pub past_the_last : nodes ≤ k → READ ≡ node_by bs nodes w k
  unfolding node_by
  past_the_last h = rw (le-ltb k nodes h)

-- by its table, a good program's node is the node
pub node_by_lem : (bs : List ℕ) (p : Program) (w : List ℕ) (k : ℕ) → checked bs ≡ good p → PlacesIn bs (length p.nodes) w → node_by bs (length p.nodes) w k ≡ node_at p k
unfolding node_at
node_by_lem bs p w k g t =
    elim (dec_lt k (length p.nodes)) [
      | yes h ↦ sym (at_its_place bs (length p.nodes) w k h (sym (t k h))) ∙ (good_program bs p g).at_place k h
      | no h ↦
          let l : length p.nodes ≤ k = omega arith in
          sym (past_the_last bs (length p.nodes) w k l) ∙ sym (get_or-eq_default p.nodes READ {n = k} l)
    ]
