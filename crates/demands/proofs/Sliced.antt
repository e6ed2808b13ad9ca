-- A party of the mode sees, by its slices, what the single run sees: at a node that is not joint it takes its part of the same step. Assumes nothing.
use Prim.Native.Nat.{ℕ}
use mathlib.Core.Path.{◌≡◌, refl, sym, ap, ◌∙◌}
use mathlib.Core.Bool.{Bool, true, false, ◌&&◌, not, cond, false≢true, beq}
use mathlib.Core.List.{List, map}
use borrow.Author.Tests.{eqb-true}
use lib.IntN.{ℤ}
use lib.ListN.{get_or}
use Rattle.numbers.specs.Integers.{operate, operation_of}
use Rattle.parties.specs.Sets.{member, meet, is_empty, same_set, none}
use Rattle.parties.specs.SetLaws.{member_meet, member_none, same_set_lem}
use Rattle.limits.specs.declared.Name.{Name}
use Rattle.parties.specs.declared.sets.PartySet.{PartySet}
use Rattle.values.specs.Values.{place, moved, restrict, slice, held, had_by}
use Rattle.values.specs.declared.value.Value.{Value}
use Rattle.values.specs.declared.value.Value.TheVariants.{Nothing, Clear, Share}
use Rattle.std.specs.Prelude.{Option, Some, None}
use Rattle.values.specs.declared.value.Held.{Held}
use Rattle.nodes.specs.declared.Node.{Node}
use Rattle.nodes.specs.declared.Node.TheVariants.{VAR, INT, OP, MUX, READ, WRITE, EMBED, SHARE, REVEAL, LET, CASE, PAR, CALL}
use Rattle.refusals.specs.declared.Refusal.{Refusal}
use Rattle.refusals.specs.declared.Refusal.TheVariants.{WrongValue, WrongMode}
use Rattle.rules.specs.Names.{Names, Looked, found, unbound, look_all, names_of, first, second, third}
use Rattle.rules.specs.Rules.{unless, on_two, on_three, mux, if_clear, alone, judge, with_values, rule}
use Rattle.rules.specs.Joint.{site}
use Rattle.rules.specs.declared.effects.View.TheVariants.{Whole}
use Rattle.rules.specs.declared.effects.Move.{Move}
use Rattle.rules.specs.declared.effects.Move.TheVariants.{Hand, Down, Goto, Enter, Call}
use Rattle.rules.specs.declared.effects.Effect.{Effect}
use Rattle.rules.specs.declared.effects.Effect.TheVariants.{Refuse, Goes, Reads, Writes, Meets}
use Rattle.invariants.specs.Changes.{on_names, on_looked}
use Rattle.invariants.proofs.NameLaws.{nth_on, look_all_on}
use Rattle.demands.specs.Rounds.{is_joint}

-- ---- one party's part of moves and effects

abbrev pub slice_move : ℕ → Move → Move
slice_move P (Hand v) = Hand (slice P v)
slice_move P (Down x e1 e2) = Down x e1 e2
slice_move P (Goto e) = Goto e
slice_move P (Enter m e) = cond (member P m) (Enter m e) (Hand Nothing)
slice_move P (Call f v) = Call f (slice P v)

abbrev pub slice_effect : ℕ → Effect → Effect
slice_effect P (Refuse refusal) = Refuse refusal
slice_effect P (Goes mv) = Goes (slice_move P mv)
slice_effect P Reads = Reads
slice_effect P (Writes i) = Writes i
slice_effect P (Meets mt o) = Meets mt o

-- ---- slices of values

pub empty_has : (P : ℕ) (l : PartySet) → is_empty l ≡ true → member P l ≡ false
unfolding is_empty
empty_has P l e = ap (λ (b : ℕ). member P (record { bits = b })) (eqb-true l.bits 0 e) ∙ member_none P

either_way : {A : Type 0} (t : Bool) (a : A) → cond t a a ≡ a
either_way true a = refl
either_way false a = refl

pub slice_nothing : (P : ℕ) → slice P Nothing ≡ Nothing
unfolding slice
slice_nothing P = either_way (member P (place Nothing)) Nothing

restrict_nothing : (m : PartySet) → restrict m Nothing ≡ Nothing
unfolding restrict moved
restrict_nothing m = either_way (is_empty (meet (place Nothing) m)) Nothing

slice_moved : (P : ℕ) (l : PartySet) (v : Value) → slice P (moved l v) ≡ cond (member P l) (moved l v) Nothing
unfolding slice moved place
slice_moved P l Nothing = either_way (member P none) Nothing ∙ sym (either_way (member P l) Nothing)
slice_moved P l (Clear i k) = refl
slice_moved P l (Share i h k) = refl

pub slice_restricted : (P : ℕ) (m : PartySet) (v : Value) → slice P (restrict m v) ≡ cond (member P (meet (place v) m)) (restrict m v) Nothing
unfolding restrict
slice_restricted P m v = go (is_empty (meet (place v) m))
  where
    go : (t : Bool) → slice P (cond t Nothing (moved (meet (place v) m) v)) ≡ cond (member P (meet (place v) m)) (cond t Nothing (moved (meet (place v) m) v)) Nothing
    go true = slice_nothing P ∙ sym (either_way (member P (meet (place v) m)) Nothing)
    go false = slice_moved P (meet (place v) m) v

pub nth_slice : (P : ℕ) (vs : List Value) (k : ℕ) → get_or (map (slice P) vs) k Nothing ≡ slice P (get_or vs k Nothing)
nth_slice P = nth_on (slice P) (slice_nothing P)

-- ---- in the mode

module _ (P : ℕ) (m : PartySet) (inside : member P m ≡ true) where
  pub slice_restrict : (v : Value) → restrict m (slice P v) ≡ slice P (restrict m v)
  slice_restrict v = rw (slice_restricted P m v, member_meet P (place v) m, inside) (go (member P (place v)) refl)
    where
      go : (t : Bool) → member P (place v) ≡ t → restrict m (slice P v) ≡ cond (t && true) (restrict m v) Nothing
      go true e = unfold slice in rw e
      go false e = unfold slice in rw e (restrict_nothing m)

  pub look_all_slice : (b : Names) (xs : List Name) → look_all m (on_names (slice P) b) xs ≡ on_looked (slice P) (look_all m b xs)
  look_all_slice = look_all_on (slice P) m slice_restrict

  -- a set that is m has P
  not_the_mode : (l : PartySet) → member P l ≡ false → same_set l m ≡ false
  not_the_mode l e = go (same_set l m) refl
    where
      go : (t : Bool) → same_set l m ≡ t → same_set l m ≡ false
      go true q = absurd (false≢true (sym e ∙ ap (member P) (same_set_lem l m q) ∙ inside))
      go false q = q

  pub held_slice : (v : Value) → held m (slice P v) ≡ held m v
  unfolding held slice place
  held_slice Nothing = ap (held m) (slice_nothing P)
  held_slice (Clear i l) = go (member P l) refl
    where
      go : (t : Bool) → member P l ≡ t → held m (cond t (Clear i l) Nothing) ≡ held m (Clear i l)
      go true e = refl
      go false e = rw (not_the_mode l e)
  held_slice (Share i h l) = go (member P l) refl
    where
      go : (t : Bool) → member P l ≡ t → held m (cond t (Share i h l) Nothing) ≡ held m (Share i h l)
      go true e = refl
      go false e = rw (not_the_mode l e)

  -- what all of the mode have is whole at each of them
  pub clear_slice : (i : ℤ) → slice P (Clear i m) ≡ Clear i m
  unfolding slice place
  clear_slice i = rw inside

  share_slice : (i : ℤ) → slice P (Share i m m) ≡ Share i m m
  unfolding slice place
  share_slice i = rw inside

  result_slice : (t s : Bool) (i : ℤ) → unless WrongValue t (Goes (Hand (had_by m s i))) ≡ slice_effect P (unless WrongValue t (Goes (Hand (had_by m s i))))
  unfolding had_by
  result_slice true true i = rw share_slice
  result_slice true false i = rw clear_slice
  result_slice false s i = refl

  two_slice : (f : ℤ → ℤ → ℤ) (g h : Option Held) → on_two m f g h ≡ slice_effect P (on_two m f g h)
  two_slice f (Some x) (Some y) = result_slice (beq x.secret y.secret) x.secret (f x.number y.number)
  two_slice f (Some x) None = refl
  two_slice f None h = refl

  three_slice : (f : ℤ → ℤ → ℤ → ℤ) (g h j : Option Held) → on_three m f g h j ≡ slice_effect P (on_three m f g h j)
  three_slice f (Some x) (Some y) (Some z) = result_slice (beq x.secret y.secret && beq x.secret z.secret) x.secret (f x.number y.number z.number)
  three_slice f (Some x) (Some y) None = refl
  three_slice f (Some x) None h = refl
  three_slice f None g h = refl

  if_clear_slice : (g : Option Held) (k : ℤ → Effect) → ((i : ℤ) → k i ≡ slice_effect P (k i)) → if_clear g k ≡ slice_effect P (if_clear g k)
  if_clear_slice None k e = refl
  if_clear_slice (Some x) k e = go x.secret
    where
      go : (s : Bool) → cond s (Refuse WrongValue) (k x.number) ≡ slice_effect P (cond s (Refuse WrongValue) (k x.number))
      go true = refl
      go false = e x.number

  unless_slice : (refusal : Refusal) (t : Bool) (e : Effect) → e ≡ slice_effect P e → unless refusal t e ≡ slice_effect P (unless refusal t e)
  unless_slice k true e h = h
  unless_slice k false e h = refl

  par_slice : (p : PartySet) (e : ℕ) (t u : Bool) → member P p ≡ t → is_empty (meet m p) ≡ u
      → cond t (Goes (Enter (meet m p) e)) (Goes (Hand Nothing)) ≡ slice_effect P (cond (not u) (Goes (Enter (meet m p) e)) (Goes (Hand Nothing)))
  par_slice p e true false et eu = rw (member_meet P m p, inside, et)
  par_slice p e false false et eu = rw (member_meet P m p, inside, et)
  par_slice p e false true et eu = rw slice_nothing
  par_slice p e true true et eu = absurd (false≢true (sym (empty_has P (meet m p) eu) ∙ member_meet P m p ∙ rw (inside, et)))

  judge_slice : (e : Node) (vs : List Value) → is_joint e ≡ false → judge (site P) e m (map (slice P) vs) ≡ slice_effect P (judge Whole e m vs)
  unfolding judge
  judge_slice (VAR x) vs j = rw (nth_slice P vs 0)
  judge_slice (INT i) vs j = rw clear_slice
  judge_slice (OP o x y) vs j = rw (nth_slice P vs 0, nth_slice P vs 1, held_slice (first vs), held_slice (second vs)) (two_slice (operate (operation_of o)) (held m (first vs)) (held m (second vs)))
  judge_slice (MUX x y z) vs j =
      rw (nth_slice P vs 0, nth_slice P vs 1, nth_slice P vs 2, held_slice (first vs), held_slice (second vs), held_slice (third vs))
      (three_slice mux (held m (first vs)) (held m (second vs)) (held m (third vs)))
  judge_slice READ vs j = unless_slice WrongMode (alone m) Reads refl
  judge_slice (WRITE x) vs j = rw (nth_slice P vs 0, held_slice (first vs)) (if_clear_slice (held m (first vs)) _ λ i. unless_slice WrongMode (alone m) (Writes i) refl)
  judge_slice (EMBED x) vs j = rw (nth_slice P vs 0, held_slice (first vs)) (if_clear_slice (held m (first vs)) _ λ i. sym (ap (λ (v : Value). Goes (Hand v)) (share_slice i)))
  judge_slice (SHARE a q x) vs j = absurd (false≢true (sym j))
  judge_slice (REVEAL q x) vs j = absurd (false≢true (sym j))
  judge_slice (LET x e1 e2) vs j = refl
  judge_slice (CASE x e1 e2) vs j = rw (nth_slice P vs 0, held_slice (first vs)) (if_clear_slice (held m (first vs)) _ λ i. refl)
  judge_slice (PAR p e) vs j = par_slice p e (member P p) (is_empty (meet m p)) refl refl
  judge_slice (CALL f x) vs j = rw (nth_slice P vs 0)

  -- at a node that is not joint, the rule on a party's slices has the slice of the rule's effect; refusals are the same
  pub rule_slice : (e : Node) (b : Names) → is_joint e ≡ false → rule (site P) e m (on_names (slice P) b) ≡ slice_effect P (rule Whole e m b)
  unfolding rule
  rule_slice e b j = rw (look_all_slice b (names_of e)) (go (look_all m b (names_of e)))
    where
      go : (l : Looked) → with_values (on_looked (slice P) l) (λ vs. judge (site P) e m vs) ≡ slice_effect P (with_values l (λ vs. judge Whole e m vs))
      go (found vs) = judge_slice e vs j
      go (unbound x) = refl
