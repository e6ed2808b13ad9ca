-- A rule refuses with one of the numbers 5 to 10, in the single run and at a site. Assumes nothing.
use mathlib.Core.List.{List}
use native.Mathlib.Omega.{arith}
use Rattle.parties.specs.declared.sets.PartySet.{PartySet}
use Rattle.values.specs.declared.value.Value.{Value}
use Rattle.nodes.specs.declared.Node.{Node}
use Rattle.nodes.specs.declared.Node.TheVariants.{VAR, INT, OP, MUX, READ, WRITE, EMBED, SHARE, REVEAL, LET, CASE, PAR, CALL}
use Rattle.refusals.specs.Numbers.{number_of}
use Rattle.rules.specs.Names.{Names}
use Rattle.rules.specs.Rules.{rule}
use Rattle.rules.specs.RuleLaws.{OfKind, at_site, rule_holds}
use Rattle.rules.specs.declared.effects.View.{View}
use Rattle.rules.specs.declared.effects.Effect.{Effect}
use Rattle.rules.specs.declared.effects.Effect.TheVariants.{Refuse, Goes, Reads, Writes, Meets}
use Rattle.demands.specs.Demand1.{StopNumber}

-- what a rule refuses with
abbrev pub Refuses : Effect → Type 0
Refuses (Refuse refusal) = StopNumber (number_of refusal)
Refuses (Goes mv) = Unit {0}
Refuses Reads = Unit {0}
Refuses (Writes i) = Unit {0}
Refuses (Meets mt o) = Unit {0}

kind_refuses : (w : View) (m : PartySet) (vs : List Value) (e : Node) → OfKind w m Refuses vs e
kind_refuses w m vs (VAR x) = tt
kind_refuses w m vs (INT i) = tt
kind_refuses w m vs (OP o x y) = λ s i j. tt
kind_refuses w m vs (MUX x y z) = λ a b c f g h. tt
kind_refuses w m vs READ = λ one. tt
kind_refuses w m vs (WRITE x) = λ i h. tt
kind_refuses w m vs (EMBED x) = λ i h. tt
kind_refuses w m vs (SHARE a q x) = (λ i l f g. tt, at_site w (λ g. tt))
kind_refuses w m vs (REVEAL q x) = (λ i h l f g. tt, at_site w tt)
kind_refuses w m vs (LET x e1 e2) = tt
kind_refuses w m vs (CASE x e1 e2) = λ t. tt
kind_refuses w m vs (PAR p e) = (λ inside. tt, tt)
kind_refuses w m vs (CALL f x) = tt

pub rule_refuses : (w : View) (e : Node) (m : PartySet) (b : Names) → Refuses (rule w e m b)
rule_refuses w e m b =
    rule_holds m Refuses (omega arith, omega arith) (omega arith, omega arith) w e b (omega arith, omega arith) (λ vs f. kind_refuses w m vs e)
