-- `party_rules::other_shares` meets its contract. Assumes nothing.
use mathlib.Core.Path.{sym, ◌∙◌}
use Rattle.rules.specs.Rules.{other_shares}
use Rattle.party_rules.proofs.other_shares.Goals as goal

pub returns-then-made_up_by : goal.returns-then-made_up_by
unfolding other_shares
returns-then-made_up_by c = rw (sym c.made_up_by.ensures ∙ c.if-made_up_by.true)

pub returns-else-made_up_by : goal.returns-else-made_up_by
unfolding other_shares
returns-else-made_up_by c = rw (sym c.made_up_by.ensures ∙ c.if-made_up_by.false)
