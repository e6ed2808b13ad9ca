-- `ledger::entries::writers` meets its contract. Assumes nothing.
use borrow.Enum.Refused.{opened}
use Rattle.ledger.proofs.RevealLaws.{reveal_is, other_is}
use Rattle.ledger.proofs.entries.writers.Goals as goal

pub returns-in-Opened : goal.returns-in-Opened
returns-in-Opened c = reveal_is _ _ _ _ _ c.in-Opened.is

pub returns-in_default : goal.returns-in_default
returns-in_default c = other_is _ _ _ (opened c.in_default.in_default-own.keys2)
