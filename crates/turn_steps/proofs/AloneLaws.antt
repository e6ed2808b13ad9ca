-- A site by itself: what it takes of its inputs, and what it leaves in the lent bytes. Assumes nothing.
use mathlib.Core.Path.{◌≡◌, refl, sym, ap, ◌∙◌, subst}
use mathlib.Core.List.{List, []}
use Prim.Native.Nat.{ℕ, ◌+◌, ◌-◌, ◌*◌, ◌≤◌, ◌<◌}
use native.Mathlib.Nat.{add-zero}
use native.Mathlib.Decide.{dec_lt}
use native.Mathlib.Omega.{arith}
use borrow.Author.Tests.{eq-eqb, ne_eqb}
use Rattle.std.specs.Prelude.{Option, None, Result, Ok, Err}
use lib.IntN.{ℤ}
use lib.ListN.{length, get_or, set, take, drop, drop_of_length-le}
use lib.Seq.{take-nil, set-get_or}
use Rattle.records.specs.Events.{held_back}
use Rattle.rules.specs.Books.{Book, used}
use Rattle.rules.specs.Moves.{Control}
use Rattle.area.specs.Rows.{row_size, row, area_of, back}
use Rattle.rules.specs.Single.{Setting}
use Rattle.rules.specs.Joint.{Site, Sites, put, book_of}
use Rattle.rules.specs.declared.effects.Effect.{Effect}
use Rattle.rules.specs.declared.effects.Effect.TheVariants.{Refuse, Goes, Reads, Writes}
use Rattle.rules.specs.declared.effects.Effect.TheVariants as Effect'
use Rattle.invariants.specs.Room.{Fits}
use Rattle.inputs.specs.Inputs.{head_of}
use Rattle.area.specs.Levels.{control_of}
use Rattle.area.specs.declared.stand.Stand.{Stand}
use Rattle.acts.specs.Acts as Site
use Rattle.acts.specs.Acts.{Took, obeyed}
use Rattle.meets.specs.Places.{setting_of, InputsOf}
use Rattle.turn_steps.specs.Steps.{taken_by, ActsAlone}
use Rattle.area.proofs.RowLaws.{row_length}
use Rattle.concludes.proofs.StandLaws.{stands_length, stands_long, stands_changed}
use Rattle.turn_steps.proofs.InputLaws.{acted_stand}

-- ---- inputs taken
-- where an input is taken its place is in the list
pub taken_inside : (is : List ℤ) (a m : ℕ) (told : Result Effect ℕ) (input : Option ℤ) (k : ℕ) → input ≡ head_of (take m (drop a is)) → k ≡ taken_by told input → 0 < k → a < length is
taken_inside is a m told input k e l h =
    elim (dec_lt a (length is)) [
      | yes q ↦ q
      | no q ↦
          let z : drop a is ≡ [] = drop_of_length-le is {i = a} (omega arith) in
          let u : input ≡ None = e ∙ rw (z, take-nil) in
          absurd (let n : k ≡ 0 = l ∙ ap (taken_by told) u ∙ never told in omega arith)
    ]
  where
    never : (f : Result Effect ℕ) → taken_by f None ≡ 0
    never (Ok (Refuse r)) = refl
    never (Ok (Goes mv)) = refl
    never (Ok Reads) = refl
    never (Ok (Writes i)) = refl
    never (Ok (Effect'.Meets mt o)) = refl
    never (Err number) = refl

-- ---- a site by itself
module _ (told : Result Effect ℕ) (t : Stand) (P room : ℕ) (is : List ℤ) (end at bytes lengths work : List ℕ) (input : Option ℤ) (k u' : ℕ) (ys ws : List ℕ) (place : P < length at)
    (long : P * row_size + row_size ≤ length work) (area : length ws ≡ row_size) (next : input ≡ head_of (take (get_or end P 0 - get_or at P 0) (drop (get_or at P 0) is))) (takes : k ≡ taken_by told input)
    (act : Site.Acts told input t (record { index = P }) (get_or lengths P 0) (row room P bytes) (area_of P work) u' ys ws) where
  pub alone_by : ActsAlone told t P room is end at bytes lengths work (set at P (get_or at P 0 + k)) (back room P bytes ys) (set lengths P u') (back row_size P work ws)
  unfolding put
  alone_by =
      record {
        comes = λ bs nodes n G J b inside st ins alone runs.
            let S : Setting = setting_of G.program room in
            let c : Control = control_of t (area_of P work) in
            let s : Site = obeyed S P c b told in
            let J' : Sites = put P s J in
            let own : J' P ≡ s = rw (eq-eqb P P refl) in
            let others : (Q : ℕ) → (Q ≡ P → ⊥) → J' Q ≡ J Q = λ Q d. rw (ne_eqb Q P d) in
            let book : book_of (J P) ≡ b = ap book_of runs in
            let room_is : room ≡ length (row room P bytes) = sym (row_length room P bytes (stands_long G J J bytes lengths work st P inside)) in
            let fits : used b + held_back ≤ room = subst (λ (x : Site). Fits room x) runs (st.fits P inside) in
            let count : used b ≡ get_or lengths P 0 = ap used (sym book) ∙ stands_length G J J bytes lengths work st P inside in
            let same : b.inputs ≡ take (get_or end P 0 - get_or at P 0) (drop (get_or at P 0) is) = subst (InputsOf is end at P) runs (ins P inside) in
            let head : input ≡ head_of b.inputs = next ∙ ap head_of (sym same) in
            let took : Took b s (get_or lengths P 0) (row room P bytes) u' ys ws = act.acts S room_is b count (omega (arith, fits, count, room_is)) head alone in
            let took' : Took (book_of (J P)) (J' P) (get_or lengths P 0) (row room P bytes) u' ys ws
            = subst (λ (x : Site). Took (book_of (J P)) x (get_or lengths P 0) (row room P bytes) u' ys ws) (sym own)
            (subst (λ (x : Book). Took x s (get_or lengths P 0) (row room P bytes) u' ys ws) (sym book) took) in (
              stands_changed G J J' bytes lengths work st P inside others u' ys ws long area took' act.table,
              acted_stand is end at n J J' P S c b told input k place ins inside runs own others head takes,
            );
      }

  -- it took no input
  pub alone_none : k ≡ 0 → ActsAlone told t P room is end at bytes lengths work at (back room P bytes ys) (set lengths P u') (back row_size P work ws)
  alone_none z =
      let same : set at P (get_or at P 0 + k) ≡ at = rw (z, add-zero) (set-get_or at P 0) in
      subst (λ (x : List ℕ). ActsAlone told t P room is end at bytes lengths work x (back room P bytes ys) (set lengths P u') (back row_size P work ws)) same alone_by
