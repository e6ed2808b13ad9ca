-- `party_rules::goes_in` meets its contract. Assumes nothing.
use mathlib.Core.Path.{ap, ◌∙◌}
use mathlib.Core.Bool.{Bool, not}
use Rattle.parties.specs.Sets.{is_empty}
use Rattle.parties.specs.declared.sets.PartySet.{PartySet}
use Rattle.party_rules.proofs.goes_in.Goals as goal

pub returns-in-Whole : goal.returns-in-Whole
returns-in-Whole c = rw c.in-Whole.is (ap (λ (t : Bool). not t) (c.is_empty.ensures ∙ ap (λ (s : PartySet). is_empty s) c.meet.ensures))

pub returns-in-Site : goal.returns-in-Site
returns-in-Site c = rw c.in-Site.is c.has.ensures
