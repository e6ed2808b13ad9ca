-- Which effects a node can have: a joint node is refused or met, another is never met; and a site goes only into a mode that has it. Assumes nothing.
use Prim.Native.Nat.{ℕ}
use mathlib.Core.Path.{◌≡◌, ◌∙◌}
use mathlib.Core.Bool.{Bool, true, false}
use mathlib.Core.List.{List}
use borrow.Author.Tests.{not-true}
use Rattle.parties.specs.Sets.{member, meet, is_empty}
use Rattle.parties.specs.SetLaws.{member_meet}
use Rattle.parties.specs.declared.sets.PartySet.{PartySet}
use Rattle.values.specs.declared.value.Value.{Value}
use Rattle.nodes.specs.declared.Node.{Node}
use Rattle.nodes.specs.declared.Node.TheVariants.{VAR, INT, OP, MUX, READ, WRITE, EMBED, SHARE, REVEAL, LET, CASE, PAR, CALL}
use Rattle.rules.specs.Names.{Names}
use Rattle.rules.specs.Rules.{goes_in, rule}
use Rattle.rules.specs.RuleLaws.{OfKind, at_site, rule_holds}
use Rattle.rules.specs.declared.effects.View.{View}
use Rattle.rules.specs.declared.effects.View.TheVariants.{Whole, Site}
use Rattle.rules.specs.declared.effects.Move.{Move}
use Rattle.rules.specs.declared.effects.Move.TheVariants.{Hand, Down, Goto, Enter, Call}
use Rattle.rules.specs.declared.effects.Effect.{Effect}
use Rattle.rules.specs.declared.effects.Effect.TheVariants.{Refuse, Goes, Reads, Writes, Meets}
use Rattle.demands.specs.Rounds.{is_joint}

-- where a move into a part of the mode may lead: to a part that is not empty; a site goes only where it is itself
abbrev pub FitsMove : View → PartySet → Move → Type 0
FitsMove w m (Hand v) = Unit {0}
FitsMove w m (Down x e1 e2) = Unit {0}
FitsMove w m (Goto e) = Unit {0}
FitsMove Whole m (Enter m' e) = is_empty m' ≡ false
FitsMove (Site P) m (Enter m' e) = member P.index m ≡ true → member P.index m' ≡ true
FitsMove w m (Call f v) = Unit {0}

abbrev pub Fits : View → (joint : Bool) → PartySet → Effect → Type 0
Fits w t m (Refuse refusal) = Unit {0}
Fits w true m (Goes mv) = ⊥
Fits w true m Reads = ⊥
Fits w true m (Writes i) = ⊥
Fits w true m (Meets mt o) = Unit {0}
Fits w false m (Goes mv) = FitsMove w m mv
Fits w false m Reads = Unit {0}
Fits w false m (Writes i) = Unit {0}
Fits w false m (Meets mt o) = ⊥

enters_fits : (w : View) (m p : PartySet) (e : ℕ) → goes_in w m p ≡ true → FitsMove w m (Enter (meet m p) e)
enters_fits Whole m p e h = not-true (is_empty (meet m p)) h
enters_fits (Site P) m p e h = λ k. member_meet P.index m p ∙ rw (k, h)

kind_fits : (w : View) (m : PartySet) (vs : List Value) (e : Node) → OfKind w m (Fits w (is_joint e) m) vs e
kind_fits w m vs (VAR x) = tt
kind_fits w m vs (INT i) = tt
kind_fits w m vs (OP o x y) = λ s i j. tt
kind_fits w m vs (MUX x y z) = λ a b c f g h. tt
kind_fits w m vs READ = λ one. tt
kind_fits w m vs (WRITE x) = λ i h. tt
kind_fits w m vs (EMBED x) = λ i h. tt
kind_fits w m vs (SHARE a q x) = (λ i l f g. tt, at_site w (λ g. tt))
kind_fits w m vs (REVEAL q x) = (λ i h l f g. tt, at_site w tt)
kind_fits w m vs (LET x e1 e2) = tt
kind_fits w m vs (CASE x e1 e2) = λ t. tt
kind_fits w m vs (PAR p e) = (enters_fits w m p e, tt)
kind_fits w m vs (CALL f x) = tt

pub rule_fits_lem : (w : View) (e : Node) (m : PartySet) (b : Names) → Fits w (is_joint e) m (rule w e m b)
rule_fits_lem w e m b = rule_holds m (Fits w (is_joint e) m) tt tt w e b tt (λ vs f. kind_fits w m vs e)
