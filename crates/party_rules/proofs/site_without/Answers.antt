-- `party_rules::site_without` meets its contract. Assumes nothing.
use mathlib.Core.Path.{sym, ◌∙◌}
use Rattle.rules.specs.Rules.{at_reveal}
use Rattle.party_rules.proofs.site_without.Goals as goal

pub returns-then-has : goal.returns-then-has
unfolding at_reveal
returns-then-has c = rw (c.in-Nothing.is, sym c.has.ensures ∙ c.if-has.true)

pub returns-else-has : goal.returns-else-has
unfolding at_reveal
returns-else-has c = rw (c.in-Nothing.is, sym c.has.ensures ∙ c.if-has.false)

pub returns-in-Clear : goal.returns-in-Clear
unfolding at_reveal
returns-in-Clear c = rw c.in-Clear.is (rw c.in-Clear.is at c.holder_opens.ensures)

pub returns-in-Share : goal.returns-in-Share
unfolding at_reveal
returns-in-Share c = rw c.in-Share.is (rw c.in-Share.is at c.holder_opens-in-Share.ensures)
