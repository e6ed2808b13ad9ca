-- What a reader expects of the single run: a step more is one step; nobody meets with empty hands, and only a mode of one party reads. Assumes nothing.
use Rattle.std.specs.Prelude.{ℕ, zero, suc, ◌≡◌, refl, List}
use Rattle.parties.specs.Sets.{count}
use Rattle.parties.specs.declared.sets.PartySet.{PartySet}
use Rattle.values.specs.declared.value.Value.{Value}
use Rattle.nodes.specs.declared.Node.{Node}
use Rattle.nodes.specs.declared.Node.TheVariants.{VAR, INT, OP, MUX, READ, WRITE, EMBED, SHARE, REVEAL, LET, CASE, PAR, CALL}
use Rattle.rules.specs.Names.{Names}
use Rattle.rules.specs.Rules.{rule}
use Rattle.rules.specs.RuleLaws.{OfKind, rule_holds}
use Rattle.rules.specs.Single.{Setting, Single, going, ended, stopped, step, run}
use Rattle.rules.specs.declared.effects.View.TheVariants.{Whole}
use Rattle.rules.specs.declared.effects.Offer.TheVariants.{Empty, Secret}
use Rattle.rules.specs.declared.effects.Effect.{Effect}
use Rattle.rules.specs.declared.effects.Effect.TheVariants.{Refuse, Goes, Reads, Writes, Meets}

-- one step more
pub run_one_more : (S : Setting) (k : ℕ) (s : Single) → run S (suc k) s ≡ step S (run S k s)
unfolding run step
run_one_more S zero (going t c b) = refl
run_one_more S zero (ended t v b) = refl
run_one_more S zero (stopped t r e b) = refl
run_one_more S (suc k) (going t c b) = run_one_more S k (step S (going t c b))
run_one_more S (suc k) (ended t v b) = refl
run_one_more S (suc k) (stopped t r e b) = refl

-- ---- what a rule can ask of all of a mode at once

-- no meeting with empty hands, and reading only where the mode has one party
abbrev pub Sound : PartySet → Effect → Type 0
Sound m (Refuse refusal) = Unit {0}
Sound m (Goes mv) = Unit {0}
Sound m Reads = count m ≡ 1
Sound m (Writes i) = Unit {0}
Sound m (Meets mt Empty) = ⊥
Sound m (Meets mt (Secret i h)) = Unit {0}

kind_sound : (m : PartySet) (vs : List Value) (e : Node) → OfKind Whole m (Sound m) vs e
kind_sound m vs (VAR x) = tt
kind_sound m vs (INT i) = tt
kind_sound m vs (OP o x y) = λ s i j. tt
kind_sound m vs (MUX x y z) = λ a b c f g h. tt
kind_sound m vs READ = λ one. one
kind_sound m vs (WRITE x) = λ i h. tt
kind_sound m vs (EMBED x) = λ i h. tt
kind_sound m vs (SHARE a q x) = (λ i l f g. tt, tt)
kind_sound m vs (REVEAL q x) = (λ i h l f g. tt, tt)
kind_sound m vs (LET x e1 e2) = tt
kind_sound m vs (CASE x e1 e2) = λ t. tt
kind_sound m vs (PAR p e) = (λ inside. tt, tt)
kind_sound m vs (CALL f x) = tt

pub whole_sound : (m : PartySet) (e : Node) (b : Names) → Sound m (rule Whole e m b)
whole_sound m e b = rule_holds m (Sound m) tt tt Whole e b tt (λ vs f. kind_sound m vs e)
