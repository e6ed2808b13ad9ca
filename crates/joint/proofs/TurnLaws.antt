-- A turn list with no bad turn; and the loop over it: what is left, run from here, is what was asked for. Assumes nothing.
use mathlib.Core.Path.{◌≡◌, refl, sym, ap, ◌∙◌, subst}
use mathlib.Core.Bool.{Bool, true, false, ◌&&◌, cond}
use mathlib.Core.List.{List, [], ◌∷◌}
use mathlib.Core.Option.{none, some}
use Prim.Native.Nat.{ℕ, zero, suc, ◌+◌, ◌*◌, ◌≤◌, ◌<◌}
use native.Mathlib.Numerals.{add-one}
use native.Mathlib.Omega.{arith}
use borrow.Author.Tests.{ltb-true}
use lib.Dec.{ltb}
use lib.IntN.{ℤ}
use lib.ListN.{length, get_or, drop, drop_of_length-le}
use lib.Seq.{drop-cons}
use Rattle.program.specs.ScanLaws.{both}
use Rattle.rules.specs.Calls.{max_turns, bad_turn_from}
use Rattle.rules.specs.Joint.{Sites, Turned, turn, also, run_turns}
use Rattle.rules.specs.Single.{Setting}
use Rattle.meets.specs.Places.{setting_of, Given, Stands, InputsStand}
use Rattle.turn_steps.specs.Steps.{once}
use Rattle.area.specs.Rows.{row_size}
use Rattle.area.specs.declared.stand.Stand.{Stand}
use Rattle.advance.specs.Strides.{RowsFit, Led, StridesTo}
use Rattle.advance.specs.declared.strides.Strode.{Strode}
use Rattle.advance.proofs.StrideLaws.{led_keep, back_length}
use Rattle.sites.specs.Turns.{Turns, TurnsCame}
use Rattle.sites.proofs.TurnLaws.{turn_led}
use Rattle.invariants.proofs.RowLaws.{rows}
use Rattle.joint.specs.Runs.{AllBelow, RunsTurns}

-- ---- no turn is bad
-- the first turn is not bad, and none after it
pub good_first : (n i t : ℕ) (ts : List ℕ) → bad_turn_from n i (t ∷ ts) ≡ none → (t < n) × (i < max_turns) × (bad_turn_from n (i + 1) ts ≡ none)
unfolding bad_turn_from
good_first n i t ts e = go (ltb t n && ltb i max_turns) refl e
  where
    go : (x : Bool) → (ltb t n && ltb i max_turns) ≡ x → cond x (bad_turn_from n (i + 1) ts) (some i) ≡ none → (t < n) × (i < max_turns) × (bad_turn_from n (i + 1) ts ≡ none)
    go true q f = let b = both (ltb t n) (ltb i max_turns) q in (ltb-true t n b.0, ltb-true i max_turns b.1, f)
    go false q f = absurd (let z : ◌≡◌ {A = ℕ} 0 1 = cc in omega arith)

few_from : (n i : ℕ) (ts : List ℕ) → i ≤ max_turns → bad_turn_from n i ts ≡ none → i + length ts ≤ max_turns
few_from n i [] h e = omega arith
few_from n i (t ∷ ts) h e =
    let g = good_first n i t ts e in
    omega (arith, few_from n (i + 1) ts (omega (arith, g.1)) g.2)

below_from : (n i : ℕ) (ts : List ℕ) → bad_turn_from n i ts ≡ none → AllBelow n ts
below_from n i [] e j h = absurd (let z : j < 0 = h in omega arith)
below_from n i (t ∷ ts) e zero h = (good_first n i t ts e).0
below_from n i (t ∷ ts) e (suc j) h = below_from n (i + 1) ts (good_first n i t ts e).2 j (omega arith)

module _ (n : ℕ) (ts : List ℕ) (e : bad_turn_from n 0 ts ≡ none) where
  pub few_turns : length ts ≤ max_turns
  few_turns = omega (arith, few_from n 0 ts (omega arith) e)

  pub turns_below : AllBelow n ts
  turns_below = below_from n 0 ts e

-- ---- the loop over the turns
pub rows_fit : (n : ℕ) (ts : List ℕ) (long : ℕ) → AllBelow n ts → n * row_size ≤ long → RowsFit true ts long
rows_fit n ts long below h j inside = omega (arith, rows (get_or ts j 0) n row_size (below j (inside refl)), h)

once_le : (r : Bool) → once r ≤ 1
once_le true = omega arith
once_le false = omega arith

run_one : (S : Setting) (ts : List ℕ) (j : ℕ) (J : Sites) → j < length ts
    → run_turns S (drop j ts) J ≡ also (turn S (get_or ts j 0) J) (run_turns S (drop (j + 1) ts) (turn S (get_or ts j 0) J).sites)
unfolding run_turns
run_one S ts j J h = rw (drop-cons ts j 0 h, add-one j)

run_none : (S : Setting) (ts : List ℕ) (j : ℕ) (J : Sites) → length ts ≤ j → run_turns S (drop j ts) J ≡ record { sites = J; count = 0 }
unfolding run_turns
run_none S ts j J h = rw (drop_of_length-le ts h)

module _ (bs : List ℕ) (nodes : ℕ) (ts : List ℕ) (n room : ℕ) (is : List ℤ) (end at₀ bytes₀ lengths₀ work₀ : List ℕ) where
  -- after j turns, of which count counted: the sites that the run has come to, for whatever sites it started from
  pub record Going (j count : ℕ) (at bytes lengths work : List ℕ) : Type 0 where
    pub few : count ≤ j
    pub leads : (G : Given bs nodes room n) (J₀ : Sites) → Stands G J₀ bytes₀ lengths₀ work₀ → InputsStand is end n at₀ J₀
        → let S : Setting = setting_of G.program room in
        (J : Sites) × Stands G J bytes lengths work × InputsStand is end n at J
        × ((run_turns S (drop j ts) J).sites ≡ (run_turns S ts J₀).sites) × (count + (run_turns S (drop j ts) J).count ≡ (run_turns S ts J₀).count)

  pub going_none : Going 0 0 at₀ bytes₀ lengths₀ work₀
  going_none = record { few = omega arith; leads = λ G J₀ st ins. (J₀, st, ins, refl, omega arith) }

  module _ (j count : ℕ) (at bytes lengths work : List ℕ) (go : Going j count at bytes lengths work) where
    pub going_more : (r : Bool) (k : ℕ) (at' bytes' lengths' work' : List ℕ) → AllBelow n ts → j < length ts → k ≡ once r
        → Turns bs nodes (get_or ts j 0) n room is end r at bytes lengths work at' bytes' lengths' work' → Going (j + 1) (count + k) at' bytes' lengths' work'
    going_more r k at' bytes' lengths' work' below h e t =
        record {
          few = omega (arith, go.few, e, once_le r);
          leads = λ G J₀ st₀ ins₀.
              let S : Setting = setting_of G.program room in
              let (J, st, ins, es, ec) = go.leads G J₀ st₀ ins₀ in
              let (st', ins', e') = t.comes G J (below j h) st ins in
              let one = run_one S ts j J h in
              ((turn S (get_or ts j 0) J).sites, st', ins', sym (ap (λ (x : Turned). x.sites) one) ∙ es, omega (arith, e, e', ec, ap (λ (x : Turned). x.count) one));
        }

    pub going_all : length ts ≤ j → RunsTurns bs nodes ts n room is end count at₀ bytes₀ lengths₀ work₀ bytes lengths work
    going_all h =
        record {
          comes = λ G J₀ st₀ ins₀.
              let S : Setting = setting_of G.program room in
              let (J, st, ins, es, ec) = go.leads G J₀ st₀ ins₀ in
              let none = run_none S ts j J h in (
                subst (λ (X : Sites). Stands G X bytes lengths work) (sym (ap (λ (x : Turned). x.sites) none) ∙ es) st,
                omega (arith, ec, ap (λ (x : Turned). x.count) none),
              );
        }

  counted : {a c : ℕ} (b d : ℕ) {at bytes lengths work : List ℕ} → a ≡ b → c ≡ d → Going a c at bytes lengths work → Going b d at bytes lengths work
  counted b d e f g = rw (← e, ← f) g

  -- so many turns that led on
  going_led : (j count : ℕ) (at bytes lengths work : List ℕ) → Going j count at bytes lengths work → AllBelow n ts → n * row_size ≤ length work → n ≤ length at
      → (k : ℕ) (t u : Stand) (v : List ℕ) → j + k ≤ length ts → Led true ts bs nodes j k t work u v → Going (j + k) (count + k) at bytes lengths v × (length v ≡ length work)
  going_led j count at bytes lengths work go below long places k t u v fits led =
      led_keep true ts bs nodes j t work (λ i s x. j + i ≤ length ts → Going (j + i) (count + i) at bytes lengths x × (length x ≡ length work))
      (λ h. (counted (j + 0) (count + 0) (omega arith) (omega arith) go, refl))
      (λ i s u x v goes led h.
      let P : ℕ = get_or ts (j + i) 0 in
      let inside : j + i < length ts = omega arith in
      let (g, same) = goes (omega arith) in
      let lent : P * row_size + row_size ≤ length x = omega (arith, rows P n row_size (below (j + i) inside)) in
      let (ys, leads, size, e) = led in (
        counted (j + (i + 1)) (count + (i + 1)) (omega arith) (omega arith)
            (going_more (j + i) (count + i) at bytes lengths x g true 1 at bytes lengths v below inside refl
            (turn_led bs nodes P n room is end at bytes lengths s u x v (omega (arith, below (j + i) inside)) lent led)),
        rw e (back_length P x ys lent size ∙ same),
      ))
      k u v led fits

  -- a stride of them, and the turn after it
  pub going_stride : (j count : ℕ) (at bytes lengths work : List ℕ) → Going j count at bytes lengths work → AllBelow n ts → n * row_size ≤ length work → n ≤ length at
      → (start : Stand) (most : ℕ) (r : Strode) (x : List ℕ) → StridesTo true ts bs nodes j start most r work x → j + most ≤ length ts
      → (b : Bool) (k : ℕ) (at' bytes' lengths' work' : List ℕ) → k ≡ once b → TurnsCame bs nodes r.came (get_or ts (j + r.moves) 0) n room is end b at bytes lengths x at' bytes' lengths' work'
      → Going (j + r.moves + 1) (count + (r.moves + k)) at' bytes' lengths' work'
  going_stride j count at bytes lengths work go below long places start most r x (few, t, v, led, stops) fits b k at' bytes' lengths' work' e turn =
      let P : ℕ = get_or ts (j + r.moves) 0 in
      let inside : j + r.moves < length ts = omega arith in
      let (g, same) = going_led j count at bytes lengths work go below long places r.moves start t v (omega arith) led in
      counted (j + r.moves + 1) (count + (r.moves + k)) refl (omega arith)
      (going_more (j + r.moves) (count + r.moves) at bytes lengths v g b k at' bytes' lengths' work' below inside e
      (turn.comes t v (omega (arith, rows P n row_size (below (j + r.moves) inside))) stops))
