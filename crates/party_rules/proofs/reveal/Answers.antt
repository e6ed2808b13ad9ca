-- `party_rules::reveal` meets its contract. Assumes nothing.
use Rattle.rules.specs.Rules.{at_reveal}
use Rattle.party_rules.proofs.reveal.Goals as goal

pub returns-in-Whole : goal.returns-in-Whole
unfolding at_reveal
returns-in-Whole c = rw c.in-Whole.is c.holder_opens.ensures

pub returns-in-Site : goal.returns-in-Site
returns-in-Site c = rw c.in-Site.is c.site_without.ensures
