-- What is found of names, one by one and all at once. Assumes nothing.
use Rattle.std.specs.Prelude.{Option, Some, None, Ok, Err, option_map}
use mathlib.Core.Path.{◌≡◌, refl, sym, ap, ◌∙◌}
use mathlib.Core.List.{List, [], ◌∷◌}
use Prim.Native.Nat.{ℕ, zero, suc, ◌+◌, ◌*◌, ◌≤◌, ◌<◌}
use native.Mathlib.Omega.{arith}
use lib.ListN.{take, get_or-eq_default}
use Rattle.limits.specs.declared.Name.{Name}
use Rattle.parties.specs.declared.sets.PartySet.{PartySet}
use Rattle.values.specs.Values.{restrict}
use Rattle.cells.specs.Cells.{cell_at}
use Rattle.values.specs.declared.value.Value.{Value}
use Rattle.values.specs.declared.value.Value.TheVariants.{Nothing}
use Rattle.nodes.specs.declared.Node.{Node}
use Rattle.nodes.specs.declared.Node.TheVariants.{VAR, INT, OP, MUX, READ, WRITE, EMBED, SHARE, REVEAL, LET, CASE, PAR, CALL}
use Rattle.rules.specs.Names.{Names, Looked, found, unbound, look, look_all, names_of}
use Rattle.rules.specs.Rules.{judge, with_values, rule}
use Rattle.rules.specs.declared.bindings.Binding.{Binding}
use Rattle.rules.specs.declared.effects.View.{View}
use Rattle.area.specs.Levels.{level_at, names_at}
use Rattle.lookup.specs.Lookup.{sought_of, listed, three, padded}
use Rattle.lookup.specs.declared.Unbound.{Unbound}
use Rattle.lookup.specs.declared.Reading.{Reading}
use Rattle.area.proofs.LevelLaws.{names_length, names_get}

-- ---- one name, in the cell that is its own
module _ (x : Name) (m : PartySet) (w : List ℕ) (d : ℕ) where
  sought_in : (b : Option Value) → x.index < 16 → b ≡ cell_at w (level_at d + x.index * 9) → sought_of x (option_map (restrict m) b) ≡ sought_of x (look m (names_at w d) x)
  unfolding look
  sought_in b h e = ap (λ (c : Option Value). sought_of x (option_map (restrict m) c)) (e ∙ sym (names_get w d x.index h))

  pub seek_unbound : (b : Option Value) → x.index < 16 → b ≡ cell_at w (level_at d + x.index * 9) → b ≡ None → Err (record { name = x }) ≡ sought_of x (look m (names_at w d) x)
  seek_unbound b h e u = ap (λ (c : Option Value). sought_of x (option_map (restrict m) c)) (sym u) ∙ sought_in b h e

  pub seek_bound : (b : Option Value) (v u : Value) → x.index < 16 → b ≡ cell_at w (level_at d + x.index * 9) → b ≡ Some v → u ≡ restrict m v
      → Ok (record { name = x; value = u }) ≡ sought_of x (look m (names_at w d) x)
  seek_bound b v u h e t r = ap (λ (z : Value). sought_of x (Some z)) r ∙ ap (λ (c : Option Value). sought_of x (option_map (restrict m) c)) (sym t) ∙ sought_in b h e

  pub seek_out : 16 ≤ x.index → Err (record { name = x }) ≡ sought_of x (look m (names_at w d) x)
  unfolding look
  seek_out h =
      ap (λ (c : Option Value). sought_of x (option_map (restrict m) c))
      (sym (get_or-eq_default (names_at w d) None {n = x.index} (rw (names_length w d) h)))

-- what the answer says of the name
pub found_is : (x : Name) (b : Option Value) (y : Binding) → sought_of x b ≡ Ok y → b ≡ Some y.value
found_is x None y e = absurd (let z : ◌≡◌ {A = ℕ} 0 1 = cc in omega arith)
found_is x (Some v) y e = let q : v ≡ y.value = cc in ap Some q

pub missing_is : (x : Name) (b : Option Value) (y : Unbound) → sought_of x b ≡ Err y → (b ≡ None) × (x ≡ y.name)
missing_is x None y e = (refl, cc)
missing_is x (Some v) y e = absurd (let z : ◌≡◌ {A = ℕ} 0 1 = cc in omega arith)

-- ---- all names of a reading, at most three
module _ (m : PartySet) (b : Names) (r : Reading) where
  pub looked_none : r.many ≡ 0 → found (Nothing ∷ Nothing ∷ Nothing ∷ []) ≡ padded (look_all m b (listed r))
  unfolding padded look_all
  looked_none none = rw none

  pub first_unbound : (y : Unbound) → (r.many ≡ 0 → ⊥) → sought_of r.x (look m b r.x) ≡ Err y → unbound y.name ≡ padded (look_all m b (listed r))
  unfolding padded look_all
  first_unbound y n e = go r.many n
    where
      u : (look m b r.x ≡ None) × (r.x ≡ y.name)
      u = missing_is r.x (look m b r.x) y e

      go : (k : ℕ) → (k ≡ 0 → ⊥) → unbound y.name ≡ padded (look_all m b (take k (r.x ∷ r.y ∷ r.z ∷ [])))
      go zero h = absurd (h refl)
      go (suc k) h = rw (u.0, u.1)

  module _ (bx : Binding) (ex : sought_of r.x (look m b r.x) ≡ Ok bx) where
    hx : look m b r.x ≡ Some bx.value
    hx = found_is r.x (look m b r.x) bx ex

    pub looked_one : r.many ≡ 1 → found (bx.value ∷ Nothing ∷ Nothing ∷ []) ≡ padded (look_all m b (listed r))
    unfolding padded look_all
    looked_one one = rw (one, hx)

    pub second_unbound : (y : Unbound) → (r.many ≡ 0 → ⊥) → (r.many ≡ 1 → ⊥) → sought_of r.y (look m b r.y) ≡ Err y → unbound y.name ≡ padded (look_all m b (listed r))
    unfolding padded look_all
    second_unbound y n n1 e = go r.many n n1
      where
        u : (look m b r.y ≡ None) × (r.y ≡ y.name)
        u = missing_is r.y (look m b r.y) y e

        go : (k : ℕ) → (k ≡ 0 → ⊥) → (k ≡ 1 → ⊥) → unbound y.name ≡ padded (look_all m b (take k (r.x ∷ r.y ∷ r.z ∷ [])))
        go zero h h1 = absurd (h refl)
        go (suc zero) h h1 = absurd (h1 refl)
        go (suc (suc k)) h h1 = rw (hx, u.0, u.1)

    module _ (by : Binding) (ey : sought_of r.y (look m b r.y) ≡ Ok by) where
      hy : look m b r.y ≡ Some by.value
      hy = found_is r.y (look m b r.y) by ey

      pub looked_two : r.many ≡ 2 → found (bx.value ∷ by.value ∷ Nothing ∷ []) ≡ padded (look_all m b (listed r))
      unfolding padded look_all
      looked_two two = rw (two, hx, hy)

      pub third_unbound : (y : Unbound) → 3 ≤ r.many → sought_of r.z (look m b r.z) ≡ Err y → unbound y.name ≡ padded (look_all m b (listed r))
      unfolding padded look_all
      third_unbound y h e = go r.many h
        where
          u : (look m b r.z ≡ None) × (r.z ≡ y.name)
          u = missing_is r.z (look m b r.z) y e

          go : (k : ℕ) → 3 ≤ k → unbound y.name ≡ padded (look_all m b (take k (r.x ∷ r.y ∷ r.z ∷ [])))
          go zero h = absurd (omega arith)
          go (suc zero) h = absurd (omega arith)
          go (suc (suc zero)) h = absurd (omega arith)
          go (suc (suc (suc k))) h = rw (hx, hy, u.0, u.1)

      pub looked_three : (bz : Binding) → 3 ≤ r.many → sought_of r.z (look m b r.z) ≡ Ok bz
          → found (bx.value ∷ by.value ∷ bz.value ∷ []) ≡ padded (look_all m b (listed r))
      unfolding padded look_all
      looked_three bz h e = go r.many h
        where
          u : look m b r.z ≡ Some bz.value
          u = found_is r.z (look m b r.z) bz e

          go : (k : ℕ) → 3 ≤ k → found (bx.value ∷ by.value ∷ bz.value ∷ []) ≡ padded (look_all m b (take k (r.x ∷ r.y ∷ r.z ∷ [])))
          go zero h = absurd (omega arith)
          go (suc zero) h = absurd (omega arith)
          go (suc (suc zero)) h = absurd (omega arith)
          go (suc (suc (suc zero))) h = rw (hx, hy, u)
          go (suc (suc (suc (suc k)))) h = rw (hx, hy, u)

-- ---- a rule looks at the first three values only
judge_three : (w : View) (e : Node) (m : PartySet) (vs : List Value) → judge w e m (three vs) ≡ judge w e m vs
unfolding judge
judge_three w (VAR x) m vs = refl
judge_three w (INT i) m vs = refl
judge_three w (OP o x y) m vs = refl
judge_three w (MUX x y z) m vs = refl
judge_three w READ m vs = refl
judge_three w (WRITE x) m vs = refl
judge_three w (EMBED x) m vs = refl
judge_three w (SHARE a q x) m vs = refl
judge_three w (REVEAL q x) m vs = refl
judge_three w (LET x e1 e2) m vs = refl
judge_three w (CASE x e1 e2) m vs = refl
judge_three w (PAR p e) m vs = refl
judge_three w (CALL f x) m vs = refl

pub rule_padded : (w : View) (e : Node) (m : PartySet) (b : Names) (l : Looked) → l ≡ padded (look_all m b (names_of e)) → with_values l (λ vs. judge w e m vs) ≡ rule w e m b
unfolding rule padded
rule_padded w e m b l h = ap (λ (k : Looked). with_values k (λ vs. judge w e m vs)) h ∙ go (look_all m b (names_of e))
  where
    go : (k : Looked) → with_values (padded k) (λ vs. judge w e m vs) ≡ with_values k (λ vs. judge w e m vs)
    go (found vs) = judge_three w e m vs
    go (unbound x) = refl
