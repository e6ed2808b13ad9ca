-- When an input is bad and when it is good, as the code finds out field by field; and what a caller knows of a good one: every place lies
-- within the bytes, and the case is the one that stands there. Assumes nothing.
use mathlib.Core.Path.{◌≡◌, refl, sym, ap, ◌∙◌}
use mathlib.Core.Bool.{Bool, true, false, ◌&&◌, and-false, cond}
use mathlib.Core.List.{List}
use Rattle.std.specs.Prelude.{Some, None, option_map}
use Prim.Native.Nat.{ℕ, ◌+◌, ◌-◌, ◌*◌, ◌≤◌, ◌<◌}
use native.Mathlib.Omega.{arith}
use lib.Dec.{eqb, leb}
use lib.IntN.{ℤ}
use lib.ListN.{length, get_or}
use borrow.Author.Tests.{eq-eqb, ne_eqb, le-leb, lt-leb, eqb-true, leb-true}
use Rattle.stretches.specs.Stretches.{stretch}
use Rattle.words.specs.Words.{number_at}
use Rattle.cases.specs.Rows.{numbers_at, integers_at, sum}
use Rattle.cases.specs.Input.{max_input, layout_of, turn_count, fits, laid_out, case_at, parsed}
use Rattle.cases.specs.Placed.{Placed}
use Rattle.cases.specs.declared.layout.Layout.{Layout}

-- the places by the program's length p and the sum t of the counts
abbrev pub places : List ℕ → (p t : ℕ) → Layout
places bs p t =
    record {
      end = 2 + p;
      k = get_or bs (2 + p) 0;
      counts = 2 + p + 1;
      total = t;
      inputs = 2 + p + 1 + 2 * get_or bs (2 + p) 0;
      budget = 2 + p + 1 + 2 * get_or bs (2 + p) 0 + 4 * t;
      turns = 2 + p + 1 + 2 * get_or bs (2 + p) 0 + 4 * t + 6;
    }

module _ (bs : List ℕ) where
  -- ---- bad: more bytes than are taken, or not as many as the fields make up
  pub too_many : max_input < length bs → None ≡ laid_out bs
  unfolding laid_out fits
  too_many h = rw (lt-leb (length bs) max_input h, and-false)

  other_length : (length bs ≡ (layout_of bs).turns + turn_count (layout_of bs) bs → ⊥) → None ≡ laid_out bs
  unfolding laid_out fits
  other_length d = rw (ne_eqb (length bs) ((layout_of bs).turns + turn_count (layout_of bs) bs) d)

  pub no_length : length bs < 2 → None ≡ laid_out bs
  unfolding layout_of
  no_length h = other_length (λ q. omega arith)

  -- p is the program's length as it was read
  module _ (p : ℕ) (e : p ≡ number_at 2 bs 0) where
    pub no_program : length bs ≤ 2 + p → None ≡ laid_out bs
    unfolding layout_of
    no_program h = other_length (λ q. omega arith)

    pub no_counts : length bs < 2 + p + 1 + 2 * get_or bs (2 + p) 0 → None ≡ laid_out bs
    unfolding layout_of
    no_counts h = other_length (λ q. omega (arith, ap (λ (n : ℕ). get_or bs (2 + n) 0) e))

    module _ (t : ℕ) (s : t ≡ sum (numbers_at 2 (get_or bs (2 + p) 0) bs (2 + p + 1))) where
      read_is : places bs p t ≡ layout_of bs
      unfolding layout_of
      read_is = ap (λ (n : ℕ). places bs p n) s ∙ ap (λ (n : ℕ). places bs n (sum (numbers_at 2 (get_or bs (2 + n) 0) bs (2 + n + 1)))) e

      pub no_turns : length bs < (places bs p t).turns → None ≡ laid_out bs
      no_turns h = other_length (λ q. omega (arith, ap (λ (l : Layout). l.turns) read_is))

      -- m is the turn count as it was read
      module _ (m : ℕ) (c : m ≡ number_at 2 bs ((places bs p t).budget + 4)) where
        count_is : m ≡ turn_count (layout_of bs) bs
        unfolding turn_count
        count_is = c ∙ ap (λ (l : Layout). number_at 2 bs (l.budget + 4)) read_is

        pub other_turns : (length bs ≡ (places bs p t).turns + m → ⊥) → None ≡ laid_out bs
        other_turns d = other_length (λ q. d (omega (arith, count_is, ap (λ (l : Layout). l.turns) read_is)))

        pub good : length bs ≡ (places bs p t).turns + m → length bs ≤ max_input → Some (places bs p t) ≡ laid_out bs
        unfolding laid_out fits
        good q h =
            let w : length bs ≡ (layout_of bs).turns + turn_count (layout_of bs) bs = omega (arith, count_is, ap (λ (l : Layout). l.turns) read_is) in
            rw (eq-eqb (length bs) ((layout_of bs).turns + turn_count (layout_of bs) bs) w, le-leb (length bs) max_input h) (ap Some read_is)

-- ---- what a caller knows of a good input
pub fitting : (bs : List ℕ) (l : Layout) → Some l ≡ laid_out bs → (l ≡ layout_of bs) × (length bs ≡ l.turns + turn_count l bs) × (length bs ≤ max_input)
unfolding laid_out fits
fitting bs l e = go (eqb (length bs) n) (leb (length bs) max_input) refl refl e
  where
    n : ℕ
    n = (layout_of bs).turns + turn_count (layout_of bs) bs

    go : (s t : Bool) → eqb (length bs) n ≡ s → leb (length bs) max_input ≡ t → Some l ≡ cond (s && t) (Some (layout_of bs)) None
        → (l ≡ layout_of bs) × (length bs ≡ l.turns + turn_count l bs) × (length bs ≤ max_input)
    go true true p q h =
        let w : l ≡ layout_of bs = cc in
        (w, eqb-true (length bs) n p ∙ ap (λ (m : Layout). m.turns + turn_count m bs) (sym w), leb-true (length bs) max_input q)
    go true false p q h = absurd (let z : ◌≡◌ {A = ℕ} 0 1 = cc in omega arith)
    go false t p q h = absurd (let z : ◌≡◌ {A = ℕ} 0 1 = cc in omega arith)

pub placed : (bs : List ℕ) (l : Layout) → Some l ≡ laid_out bs → l.k ≤ 255 → Placed bs l
unfolding layout_of parsed
placed bs l o few =
    let f = fitting bs l o in
    let end : l.end ≡ (layout_of bs).end = ap (λ (m : Layout). m.end) f.0 in
    let many : l.k ≡ (layout_of bs).k = ap (λ (m : Layout). m.k) f.0 in
    let counts : l.counts ≡ (layout_of bs).counts = ap (λ (m : Layout). m.counts) f.0 in
    let total : l.total ≡ (layout_of bs).total = ap (λ (m : Layout). m.total) f.0 in
    let inputs : l.inputs ≡ (layout_of bs).inputs = ap (λ (m : Layout). m.inputs) f.0 in
    let budget : l.budget ≡ (layout_of bs).budget = ap (λ (m : Layout). m.budget) f.0 in
    let turns : l.turns ≡ (layout_of bs).turns = ap (λ (m : Layout). m.turns) f.0 in
    record {
      few = f.2;
      starts = omega arith;
      program = omega arith;
      few_counts = few;
      counts = omega arith;
      few_inputs = omega arith;
      inputs = omega arith;
      budget = omega arith;
      turns = sym f.1;
      case = ap (option_map (case_at bs)) (sym o);
    }

-- the case of lists that were filled from the places of the counts and the inputs, with the program up to its end and the turns up to the last byte
pub loaded : (bs : List ℕ) (l : Layout) → Placed bs l → (n m : ℕ) (cs : List ℕ) (is : List ℤ) (b : ℕ) → n ≡ l.k → m ≡ l.total
    → cs ≡ numbers_at 2 n bs l.counts → is ≡ integers_at m bs l.inputs → b ≡ number_at 4 bs l.budget
    → parsed bs ≡ Some (record { program = stretch 2 (l.end - 2) bs; counts = cs; inputs = is; budget = b; turns = stretch l.turns (length bs - l.turns) bs })
unfolding case_at
loaded bs l p n m cs is b en em ec ei eb =
    let t : length bs - l.turns ≡ turn_count l bs = omega (arith, p.turns) in
    rw (ec, ei, eb, en, em, t) p.case

pub bad_input : (bs : List ℕ) → None ≡ laid_out bs → parsed bs ≡ None
unfolding parsed
bad_input bs o = ap (option_map (case_at bs)) (sym o)
