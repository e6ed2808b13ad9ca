-- `nodes::window` meets its contract. Assumes nothing.
use native.Mathlib.Nat.{add_assoc}
use native.Mathlib.Omega.{arith}
use Rattle.words.proofs.SpellLaws.{number_join, number_spells}
use Rattle.nodes.proofs.window.Goals as goal

pub returns-then-at-p : goal.returns-then-at-p
returns-then-at-p c j h = c.load8.ensures j (omega arith)

pub returns : goal.returns
returns c =
    let at = c.args.at in
    number_spells 6 _ _ c.shared_slice_known-1.given
    (number_join 2 4 _ _ c.half.ensures (number_join 2 2 _ _ c.half-2.ensures (rw (add_assoc at 2 2) c.half-3.ensures)))
