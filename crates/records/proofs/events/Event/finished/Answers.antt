-- `records::events::Event::finished` meets its contract. Assumes nothing.
use native.Mathlib.Omega.{arith}
use Rattle.numbers.proofs.IntegerLaws.{read32}
use Rattle.records.specs.Events.{finished}
use Rattle.records.proofs.events.Event.finished.Goals as goal

pub returns-in-Nothing : goal.returns-in-Nothing
unfolding finished
returns-in-Nothing c = rw c.in-Nothing.is

pub returns-in-Clear : goal.returns-in-Clear
unfolding finished
returns-in-Clear c = rw (c.in-Clear.is, read32 c.in-Clear.i (record { sfits = omega arith }))

pub returns-in-Share : goal.returns-in-Share
unfolding finished
returns-in-Share c = rw c.in-Share.is
