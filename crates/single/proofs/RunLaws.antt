-- The loop of the run: what is left, run from here, is what was asked for. One law for each way out of a turn. Assumes nothing.
use mathlib.Core.Path.{◌≡◌, refl, sym, ap, ◌∙◌, subst}
use mathlib.Core.List.{List}
use Prim.Native.Nat.{ℕ, zero, suc, ◌+◌, ◌-◌, ◌≤◌, ◌<◌}
use native.Mathlib.Omega.{arith}
use lib.IntN.{ℤ}
use lib.ListN.{length, take}
use Rattle.values.specs.declared.value.Value.{Value}
use Rattle.program.specs.Check.{Program, good, checked}
use Rattle.refusals.specs.Numbers.{number_of}
use Rattle.refusals.specs.declared.Refusal.{Refusal}
use Rattle.rules.specs.Books.{Books}
use Rattle.rules.specs.Moves.{Control}
use Rattle.rules.specs.Single.{Setting, Single, going, ended, stopped, step, run}
use Rattle.area.specs.Levels.{table_size, control_of}
use Rattle.table.specs.Table.{PlacesIn}
use Rattle.area.specs.declared.stand.Stand.{Stand}
use Rattle.table.proofs.TableLaws.{places_kept}
use Rattle.rules.specs.declared.effects.View.TheVariants.{Whole}
use Rattle.area.specs.declared.stand.Next.TheVariants as Next'
use Rattle.advance.specs.Advances.{Advances, Moves}
use Rattle.advance.specs.declared.Advanced.TheVariants.{Moved}
use Rattle.advance.proofs.AdvanceLaws.{moves_keep}
use Rattle.single_step.specs.Steps.{Lists, Given, Stands, Comes, StepsOn, Strides}
use Rattle.single_step.proofs.PerformLaws.{move_steps}
use Rattle.single.specs.Runs.{RunsOn}
use Rattle.single_step.specs.declared.Stepped.{Stepped}
use Rattle.single_step.specs.declared.Stride.{Stride}
use Rattle.single_step.specs.declared.Stepped.TheVariants.{On, Ended, Stopped}
use Rattle.single.specs.declared.runs.Answer.TheVariants as Answer'

run_step : (S : Setting) (f k : ℕ) (c : Control) (b : Books) → 0 < f → run S f (going k c b) ≡ run S (f - 1) (step S (going k c b))
unfolding run
run_step S zero k c b h = absurd (omega arith)
run_step S (suc f) k c b h = let e : suc f - 1 ≡ f = omega arith in rw e

run_ended : (S : Setting) (f k : ℕ) (v : Value) (b : Books) → run S f (ended k v b) ≡ ended k v b
unfolding run
run_ended S zero k v b = refl
run_ended S (suc f) k v b = refl

run_stopped : (S : Setting) (f k r e : ℕ) (b : Books) → run S f (stopped k r e b) ≡ stopped k r e b
unfolding run
run_stopped S zero k r e b = refl
run_stopped S (suc f) k r e b = refl

module _ (bs : List ℕ) (nodes room n : ℕ) (is : List ℤ) (end : List ℕ) (budget : ℕ) (t₀ : Stand) (l₀ : Lists) where
  -- the books that the run has come to, for whatever books it started from
  abbrev pub Leads : Stand → ℕ → Lists → Type 0
  Leads t k l =
      (G : Given room n) → G.inputs ≡ is → G.end ≡ end → (p : Program) → checked bs ≡ good p → p.parties ≡ n → length p.nodes ≡ nodes → PlacesIn bs nodes l₀.work
      → (b₀ : Books) → Stands G b₀ l₀
      → (b : Books)
      × (run (record { program = p; room = room }) (budget - k) (going k (control_of t l.work) b)
      ≡ run (record { program = p; room = room }) budget (going 0 (control_of t₀ l₀.work) b₀))
      × Stands G b l

  pub record Going (t : Stand) (k : ℕ) (l : Lists) : Type 0 where
    pub within : k ≤ budget
    pub table : take table_size l.work ≡ take table_size l₀.work
    pub leads : Leads t k l

  pub going_start : Going t₀ 0 l₀
  going_start =
      let z : budget - 0 ≡ budget = omega arith in
      record { within = omega arith; table = refl; leads = λ G ei ee p g q len places b₀ st. (b₀, rw z, st) }

  module _ (t : Stand) (k : ℕ) (l l' : Lists) (y : Stepped) (go : Going t k l) (few : nodes ≤ 1024) (h : k < budget) (d : StepsOn bs nodes room n is end t y l l') where
    -- where the step of the rules leads, and what is left from there
    pub Onward : Type 0
    Onward =
        (G : Given room n) → G.inputs ≡ is → G.end ≡ end → (p : Program) → checked bs ≡ good p → p.parties ≡ n → length p.nodes ≡ nodes → PlacesIn bs nodes l₀.work
        → (b₀ : Books) → Stands G b₀ l₀
        → (s : Single) × Comes y G k t.node s l'
        × (run (record { program = p; room = room }) (budget - k - 1) s ≡ run (record { program = p; room = room }) budget (going 0 (control_of t₀ l₀.work) b₀))

    onward : Onward
    unfolding Onward
    onward G ei ee p g q len places b₀ st =
        let S : Setting = record { program = p; room = room } in
        let (b, e, st') = go.leads G ei ee p g q len places b₀ st in
        let s : Single = step S (going k (control_of t l.work) b) in (
          s,
          d.comes G ei ee p g q len (places_kept bs nodes l₀.work l.work few go.table places) k b st',
          sym (run_step S (budget - k) k (control_of t l.work) b (omega arith)) ∙ e,
        )

    goes_on : (t' : Stand) → y ≡ On t' → Going t' (k + 1) l'
    unfolding Onward
    goes_on t' e =
        record {
          within = omega arith;
          table = d.table ∙ go.table;
          leads = λ G ei ee p g q len places b₀ st.
              let (s, c, r) = onward G ei ee p g q len places b₀ st in
              let (b, es, st') = subst (λ (x : Stepped). Comes x G k t.node s l') e c in
              let z : budget - (k + 1) ≡ budget - k - 1 = omega arith in
              (b, rw z (ap (run (record { program = p; room = room }) (budget - k - 1)) (sym es) ∙ r), st');
        }

    goes_end : y ≡ Ended → RunsOn bs nodes room n is end budget t₀ (Answer'.Ended (k + 1)) l₀ l'.bytes l'.lengths
    unfolding Onward
    goes_end e =
        record {
          comes = λ G ei ee p g q len places b₀ st.
              let (s, c, r) = onward G ei ee p g q len places b₀ st in
              let (v, b, es, holds) = subst (λ (x : Stepped). Comes x G k t.node s l') e c in
              let S : Setting = record { program = p; room = room } in
              (v, b, sym r ∙ ap (run S (budget - k - 1)) es ∙ run_ended S (budget - k - 1) (k + 1) v b, holds);
        }

    goes_stop : (refusal : Refusal) → y ≡ Stopped refusal → RunsOn bs nodes room n is end budget t₀ (Answer'.Stopped refusal t.node k) l₀ l'.bytes l'.lengths
    unfolding Onward
    goes_stop refusal e =
        record {
          comes = λ G ei ee p g q len places b₀ st.
              let (s, c, r) = onward G ei ee p g q len places b₀ st in
              let (b, es, holds) = subst (λ (x : Stepped). Comes x G k t.node s l') e c in
              let S : Setting = record { program = p; room = room } in
              (b, sym r ∙ ap (run S (budget - k - 1)) es ∙ run_stopped S (budget - k - 1) k (number_of refusal) t.node b, holds);
        }

  -- moves alone: each is a step that leads on
  module _ (few : nodes ≤ 1024) (t : Stand) (k : ℕ) (l : Lists) (go : Going t k l) where
    abbrev Gets : ℕ → Stand → List ℕ → Type 0
    Gets j u v = k + j ≤ budget → Going u (k + j) (record { bytes = l.bytes; lengths = l.lengths; work = v; at = l.at })

    gets_on : (j : ℕ) (s u : Stand) (x v : List ℕ) → Gets j s x → Advances Whole bs nodes s (Moved (Next'.On u)) x v → Gets (j + 1) u v
    gets_on j s u x v g a h =
        let z : k + j + 1 ≡ k + (j + 1) = omega arith in
        subst (λ (i : ℕ). Going u i (record { bytes = l.bytes; lengths = l.lengths; work = v; at = l.at })) z
        (goes_on s (k + j) _ _ (On u) (g (omega arith)) few (omega arith) (move_steps bs nodes room n is end s u l.bytes l.lengths l.at x v a) u refl)

    goes_far : (j : ℕ) (u : Stand) (v : List ℕ) → Moves Whole bs nodes j t l.work u v → Gets j u v
    goes_far =
        let z : k ≡ k + 0 = omega arith in
        moves_keep Whole bs nodes t l.work Gets (λ h. subst (λ (i : ℕ). Going t i l) z go) gets_on

  -- ---- a stride: its moves, and the step from where they led
  module _ (t : Stand) (k : ℕ) (l l' : Lists) (s : Stride) (go : Going t k l) (few : nodes ≤ 1024) (h : k < budget) (d : Strides bs nodes room n is end (budget - k) t s l l') where
    pub stride_within : k + s.moves < budget
    stride_within = let fewer = d.0 in omega arith

    -- the stand that the moves led to
    there : Going d.1 (k + s.moves) (record { bytes = l.bytes; lengths = l.lengths; work = d.2; at = l.at })
    there = let fewer = d.0 in goes_far few t k l go s.moves d.1 d.2 d.3 (omega arith)

    pub stride_on : (t' : Stand) → s.came ≡ On t' → Going t' (k + s.moves + 1) l'
    stride_on = goes_on d.1 (k + s.moves) _ l' s.came there few stride_within d.5

    pub stride_end : s.came ≡ Ended → RunsOn bs nodes room n is end budget t₀ (Answer'.Ended (k + s.moves + 1)) l₀ l'.bytes l'.lengths
    stride_end = goes_end d.1 (k + s.moves) _ l' s.came there few stride_within d.5

    pub stride_stop : (refusal : Refusal) → s.came ≡ Stopped refusal → RunsOn bs nodes room n is end budget t₀ (Answer'.Stopped refusal s.node (k + s.moves)) l₀ l'.bytes l'.lengths
    stride_stop refusal e = rw d.4 (goes_stop d.1 (k + s.moves) _ l' s.came there few stride_within d.5 refusal e)

  pub goes_out : (t : Stand) (k : ℕ) (l : Lists) → Going t k l → budget ≤ k → RunsOn bs nodes room n is end budget t₀ (Answer'.Budget k) l₀ l.bytes l.lengths
  unfolding run
  goes_out t k l go h =
      record {
        comes = λ G ei ee p g q len places b₀ st.
            let (b, e, st') = go.leads G ei ee p g q len places b₀ st in
            let z : budget - k ≡ 0 = omega arith in
            (control_of t l.work, b, sym (rw z at e), st'.holds);
      }
