-- `ledger::entries::finish_one` meets its contract. Assumes nothing.
use mathlib.Core.Path.{ap, ◌∙◌}
use Rattle.records.specs.Events.{finished}
use Rattle.ledger.proofs.WriteLaws.{ended}
use Rattle.ledger.proofs.entries.finish_one.Goals as goal

pub returns : goal.returns
returns c = let a = c.args in
    ended a.room a.p a.bytes.now a.lengths.now c.close.new.bytes c.requires.0 a.v c.finished.result c.close.result
    (c.finished.ensures ∙ ap finished c.slice-own.ensures) c.close.ensures
