-- `joint::runs::drive` meets its contract. Assumes nothing.
use mathlib.Core.Path.{refl}
use native.Mathlib.Omega.{arith}
use borrow.Author.Rules.{rules}
use Rattle.joint.proofs.TurnLaws.{few_turns, turns_below}
use Rattle.joint.proofs.DriveLaws.{drives_complete, drives_open}
use Rattle.joint.proofs.runs.drive.Goals as goal

pub run_turns-count-requires : goal.run_turns-count-requires
run_turns-count-requires c = let p = c.requires in
    (few_turns _ _ p.8, turns_below _ _ p.8, p.0, p.3, omega (arith, p.4, c.clear_lengths.auto.lengths), omega (arith, p.5, c.open_all.auto.work), search rules, search rules, p.2)

pub all_finished-requires : goal.all_finished-requires
all_finished-requires c = let p = c.requires in
    (p.0, omega (arith, p.5, c.open_all.auto.work, c.run_turns-count.auto.work))

pub returns-then-all_finished : goal.returns-then-all_finished
returns-then-all_finished c = let a = c.args in
    let p = c.requires in
    drives_complete a.program.now a.n a.nodes a.room a.counts.now a.inputs.now a.turns.now _ _ a.bytes.now a.lengths.now _ _ _ _ _ _ _ _ _ p.2 p.3 p.4 c.divide.ensures c.clear_lengths.ensures c.all.ensures refl c.open_all.ensures c.run_turns-count.ensures c.all_finished.ensures c.if-all_finished.true

pub returns-else-all_finished : goal.returns-else-all_finished
returns-else-all_finished c = let a = c.args in
    let p = c.requires in
    drives_open a.program.now a.n a.nodes a.room a.counts.now a.inputs.now a.turns.now _ _ a.bytes.now a.lengths.now _ _ _ _ _ _ _ _ _ p.2 p.3 p.4 c.divide.ensures c.clear_lengths.ensures c.all.ensures refl c.open_all.ensures c.run_turns-count.ensures c.all_finished.ensures c.if-all_finished.false
