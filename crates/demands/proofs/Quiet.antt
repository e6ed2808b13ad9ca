-- A party outside of the mode sees nothing of a step: nothing of what it hands back is at that party. Assumes nothing.
use Rattle.std.specs.Prelude.{Option, Some, None, option_map}
use Prim.Native.Nat.{ℕ, zero, suc}
use mathlib.Core.Path.{◌≡◌, refl, sym, ap, ◌∙◌, subst}
use mathlib.Core.Bool.{Bool, true, false, ◌&&◌, ◌||◌, false≢true}
use mathlib.Core.List.{List, [], ◌∷◌}
use lib.IntN.{ℤ}
use lib.ListN.{get_or}
use Rattle.numbers.specs.Integers.{operate, operation_of}
use Rattle.parties.specs.Sets.{member, meet, join, only, make_up}
use Rattle.parties.specs.SetLaws.{member_meet, member_join, same_set_lem}
use Rattle.limits.specs.declared.Name.{Name}
use Rattle.parties.specs.declared.sets.PartySet.{PartySet}
use Rattle.values.specs.Values.{place, restrict, slice, had_by}
use Rattle.values.specs.declared.value.Value.{Value}
use Rattle.values.specs.declared.value.Value.TheVariants.{Nothing, Clear, Share}
use Rattle.nodes.specs.declared.Node.{Node}
use Rattle.nodes.specs.declared.Node.TheVariants.{VAR, INT, OP, MUX, READ, WRITE, EMBED, SHARE, REVEAL, LET, CASE, PAR, CALL}
use Rattle.rules.specs.Names.{Names, look, Looked, found, unbound, before, look_all, names_of}
use Rattle.rules.specs.Rules.{mux, rule}
use Rattle.rules.specs.RuleLaws.{OfKind, rule_holds}
use Rattle.rules.specs.Books.{handed}
use Rattle.rules.specs.declared.effects.View.TheVariants.{Whole}
use Rattle.rules.specs.declared.effects.Move.{Move}
use Rattle.rules.specs.declared.effects.Move.TheVariants.{Hand, Down, Goto, Enter, Call}
use Rattle.rules.specs.declared.effects.Effect.{Effect}
use Rattle.rules.specs.declared.effects.Effect.TheVariants.{Refuse, Goes, Reads, Writes, Meets}
use Rattle.demands.proofs.Sliced.{slice_nothing, slice_restricted}

abbrev pub QuietMove : ℕ → Move → Type 0
QuietMove P (Hand v) = slice P v ≡ Nothing
QuietMove P (Down x e1 e2) = Unit {0}
QuietMove P (Goto e) = Unit {0}
QuietMove P (Enter m e) = member P m ≡ false
QuietMove P (Call f v) = Unit {0}

abbrev pub Quiet : ℕ → Effect → Type 0
Quiet P (Refuse refusal) = Unit {0}
Quiet P (Goes mv) = QuietMove P mv
Quiet P Reads = Unit {0}
Quiet P (Writes i) = Unit {0}
Quiet P (Meets mt o) = (i : ℤ) → slice P (handed mt i) ≡ Nothing

-- nothing of the values of names is at P
abbrev QuietValues : ℕ → List Value → Type 0
QuietValues P vs = (k : ℕ) → slice P (get_or vs k Nothing) ≡ Nothing

abbrev QuietLooked : ℕ → Looked → Type 0
QuietLooked P (found vs) = QuietValues P vs
QuietLooked P (unbound x) = Unit {0}

abbrev QuietBound : ℕ → Option Value → Type 0
QuietBound P None = Unit {0}
QuietBound P (Some v) = slice P v ≡ Nothing

module _ (P : ℕ) (m : PartySet) (outside : member P m ≡ false) where
  out_meet : (l : PartySet) → member P (meet l m) ≡ false
  out_meet l = member_meet P l m ∙ rw outside (go (member P l))
    where
      go : (t : Bool) → (t && false) ≡ false
      go true = refl
      go false = refl

  look_out : (b : Names) (x : Name) → QuietBound P (look m b x)
  unfolding look
  look_out b x = go (get_or b x.index None)
    where
      go : (u : Option Value) → QuietBound P (option_map (restrict m) u)
      go None = tt
      go (Some v) = slice_restricted P m v ∙ rw (out_meet (place v))

  look_all_out : (b : Names) (xs : List Name) → QuietLooked P (look_all m b xs)
  unfolding look_all
  look_all_out b [] = λ k. slice_nothing P
  look_all_out b (x ∷ xs) = go (look m b x) (look_all m b xs) (look_out b x) (look_all_out b xs)
    where
      more : (v : Value) (vs : List Value) → slice P v ≡ Nothing → QuietValues P vs → QuietValues P (v ∷ vs)
      more v vs h g zero = h
      more v vs h g (suc k) = g k

      go : (u : Option Value) (r : Looked) → QuietBound P u → QuietLooked P r → QuietLooked P (before x u r)
      go None r h g = tt
      go (Some v) (found vs) h g = more v vs h g
      go (Some v) (unbound y) h g = tt

  pub clear_quiet : (i : ℤ) → slice P (Clear i m) ≡ Nothing
  unfolding slice place
  clear_quiet i = rw outside

  share_quiet : (i : ℤ) → slice P (Share i m m) ≡ Nothing
  unfolding slice place
  share_quiet i = rw outside

  had_quiet : (s : Bool) (i : ℤ) → slice P (had_by m s i) ≡ Nothing
  unfolding had_by
  had_quiet true i = share_quiet i
  had_quiet false i = clear_quiet i

  -- a part of m does not have P
  pub out_part : (a q : PartySet) → join a q ≡ m → member P q ≡ false
  out_part a q e = go (member P a) (member P q) (sym (member_join P a q) ∙ ap (member P) e ∙ outside)
    where
      go : (s t : Bool) → (s || t) ≡ false → t ≡ false
      go true t h = absurd (false≢true (sym h))
      go false t h = h

  kind_quiet : (vs : List Value) → QuietValues P vs → (e : Node) → OfKind Whole m (Quiet P) vs e
  unfolding handed slice place make_up
  kind_quiet vs h (VAR x) = h 0
  kind_quiet vs h (INT i) = clear_quiet i
  kind_quiet vs h (OP o x y) = λ s i j. had_quiet s (operate (operation_of o) i j)
  kind_quiet vs h (MUX x y z) = λ a b c f g e. had_quiet a.secret (mux a.number b.number c.number)
  kind_quiet vs h READ = λ one. tt
  kind_quiet vs h (WRITE x) = λ i e. tt
  kind_quiet vs h (EMBED x) = λ i e. share_quiet i
  kind_quiet vs h (SHARE a q x) = (λ i l e f j. rw (out_part (only a.index) q (sym (same_set_lem m (join (only a.index) q) f))), tt)
  kind_quiet vs h (REVEAL q x) = (λ i g l e f j. rw (out_part g q (same_set_lem (join g q) m f)), tt)
  kind_quiet vs h (LET x e1 e2) = tt
  kind_quiet vs h (CASE x e1 e2) = λ t. tt
  kind_quiet vs h (PAR p e) = (λ inside. member_meet P m p ∙ rw outside, slice_nothing P)
  kind_quiet vs h (CALL f x) = tt

  pub rule_quiet : (e : Node) (b : Names) → Quiet P (rule Whole e m b)
  rule_quiet e b = rule_holds m (Quiet P) tt tt Whole e b tt (λ vs f. kind_quiet vs (subst (QuietLooked P) f (look_all_out b (names_of e))) e)
