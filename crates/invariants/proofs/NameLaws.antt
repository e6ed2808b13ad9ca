-- A change of every value passes through the binding of a name, and, where it passes through `restrict`, through the look-up of names.
-- Assumes nothing.
use Rattle.std.specs.Prelude.{Option, Some, None, option_map}
use Prim.Native.Nat.{ℕ, zero, suc}
use mathlib.Core.Path.{◌≡◌, refl, sym, ap, ◌∙◌}
use mathlib.Core.List.{List, [], ◌∷◌, map}
use lib.ListN.{get_or, set, replicate, get_or-map}
use Rattle.limits.specs.Limits.{max_names}
use Rattle.limits.specs.declared.Name.{Name}
use Rattle.parties.specs.declared.sets.PartySet.{PartySet}
use Rattle.values.specs.Values.{restrict}
use Rattle.values.specs.declared.value.Value.{Value}
use Rattle.values.specs.declared.value.Value.TheVariants.{Nothing}
use Rattle.rules.specs.Names.{Names, none_bound, bind, look, Looked, found, unbound, before, look_all}
use Rattle.invariants.specs.Changes.{on_names, on_looked}

module _ {A B : Type 0} (f : A → B) where
  map_set : (xs : List A) (i : ℕ) (x : A) → map f (set xs i x) ≡ set (map f xs) i (f x)
  map_set [] i x = refl
  map_set (y ∷ xs) zero x = refl
  map_set (y ∷ xs) (suc i) x = ap (λ (l : List B). f y ∷ l) (map_set xs i x)

  map_replicate : (n : ℕ) (x : A) → map f (replicate n x) ≡ replicate n (f x)
  map_replicate zero x = refl
  map_replicate (suc n) x = ap (λ (l : List B). f x ∷ l) (map_replicate n x)

module _ (f : Value → Value) where
  pub bind_on : (x : Name) (v : Value) (b : Names) → on_names f (bind x v b) ≡ bind x (f v) (on_names f b)
  unfolding bind
  bind_on x v b = map_set (option_map f) b x.index (Some v)

  pub none_on : on_names f none_bound ≡ none_bound
  unfolding none_bound
  none_on = map_replicate (option_map f) max_names None

  -- the value of a place, where nothing stays nothing
  pub nth_on : f Nothing ≡ Nothing → (vs : List Value) (n : ℕ) → get_or (map f vs) n Nothing ≡ f (get_or vs n Nothing)
  nth_on e vs n = ap (λ (d : Value). get_or (map f vs) n d) (sym e) ∙ get_or-map f vs n Nothing

module _ (f : Value → Value) (m : PartySet) (through : (v : Value) → restrict m (f v) ≡ f (restrict m v)) where
  restricted_on : (o : Option Value) → option_map (restrict m) (option_map f o) ≡ option_map f (option_map (restrict m) o)
  restricted_on None = refl
  restricted_on (Some v) = ap Some (through v)

  look_on : (b : Names) (x : Name) → look m (on_names f b) x ≡ option_map f (look m b x)
  unfolding look
  look_on b x = rw (get_or-map (option_map f) b x.index None) (restricted_on (get_or b x.index None))

  before_on : (x : Name) (o : Option Value) (r : Looked) → before x (option_map f o) (on_looked f r) ≡ on_looked f (before x o r)
  before_on x None r = refl
  before_on x (Some v) (found vs) = refl
  before_on x (Some v) (unbound y) = refl

  pub look_all_on : (b : Names) (xs : List Name) → look_all m (on_names f b) xs ≡ on_looked f (look_all m b xs)
  unfolding look_all
  look_all_on b [] = refl
  look_all_on b (x ∷ xs) = rw (look_on, look_all_on b xs) (before_on x (look m b x) (look_all m b xs))
