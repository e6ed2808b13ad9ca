-- `ledger::entries::finish_all` meets its contract. Assumes nothing.
use Rattle.ledger.proofs.LedgerLaws.{go_none, go_fits, go_more, go_all}
use Rattle.ledger.proofs.EndLaws.{finishing_bounded, finish_end}
use Rattle.ledger.proofs.entries.finish_all.Goals as goal

pub loop-p-init : goal.loop-p-init
loop-p-init c = go_none

pub finish_one-requires : goal.finish_one-requires
finish_one-requires c =
    go_fits c.loop-p.invariant c.loop-p-test.true c.requires.1 c.requires.2

pub loop-p-preserved : goal.loop-p-preserved
loop-p-preserved c =
    let l = c.loop-p in
    go_more l.invariant c.loop-p-test.true (finishing_bounded _ _ _ _) c.finish_one.ensures

pub returns : goal.returns
returns c = finish_end (go_all c.loop-p.invariant c.loop-p-test.false)
