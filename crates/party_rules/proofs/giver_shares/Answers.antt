-- `party_rules::giver_shares` meets its contract. Assumes nothing.
use mathlib.Core.Path.{sym, ◌∙◌}
use native.Mathlib.Omega.{arith}
use Rattle.numbers.proofs.IntegerLaws.{read32}
use Rattle.rules.specs.Rules.{giver_shares}
use Rattle.local_rules.proofs.RuleLaws.{maker_below}
use Rattle.party_rules.proofs.giver_shares.Goals as goal

pub only-requires : goal.only-requires
only-requires c = maker_below _ _ _ (omega arith) (sym c.made_up_by.ensures ∙ c.if-made_up_by.true)

pub returns-then-made_up_by : goal.returns-then-made_up_by
unfolding giver_shares
returns-then-made_up_by c = rw (read32 c.in-Clear.i (record { sfits = omega arith }), c.in-Clear.is, sym c.has.ensures ∙ c.if-has.true, sym c.made_up_by.ensures ∙ c.if-made_up_by.true, c.only.ensures)

pub returns-then-has : goal.returns-then-has
unfolding giver_shares
returns-then-has c = rw (c.in-Clear.is, sym c.has.ensures ∙ c.if-has.true, sym c.made_up_by.ensures ∙ c.if-made_up_by.false)

pub returns-in-Nothing : goal.returns-in-Nothing
unfolding giver_shares
returns-in-Nothing c = rw c.in-Nothing.is

pub returns-in-Share : goal.returns-in-Share
unfolding giver_shares
returns-in-Share c = rw c.in-Share.is

pub returns-else-has : goal.returns-else-has
unfolding giver_shares
returns-else-has c = rw (c.in-Clear.is, sym c.has.ensures ∙ c.if-has.false)
