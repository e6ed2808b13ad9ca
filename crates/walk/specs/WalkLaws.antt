-- A walk is made of steps, and each step goes on. Assumes nothing.
use Rattle.std.proofs.Math.Path.{◌≡◌, refl, ap}
use Rattle.std.proofs.Common.{sym, ◌∙◌, add-zero, add-one, drop-drop}
use Rattle.std.specs.Prelude.{Bool, List, [], ◌∷◌, ℕ, zero, suc, ◌+◌, ◌≤◌, ◌<◌, leb}
use Rattle.std.proofs.Math.Bool.{true, false, cond, and-eq-true_iff}
use Rattle.std.proofs.Math.Decide.{dec_lt}
use native.Mathlib.Omega.{arith}
use Rattle.std.proofs.Math.ListN.{length, get_or, drop, drop_of_length-le, length-drop}
use Rattle.std.proofs.Math.Seq.{drop-cons}
use borrow.Author.Tests.{le-leb, lt-leb, leb-true, leb-false}
use Rattle.refusals.specs.Numbers.{not_an_event}
use Rattle.walk.specs.Walk.{is_event_kind, body_width, event_from, is_whole, StepAnswer, event, end, refused, step_of, step_answer, Walked, ends, stops, and_then, walk_from}
use Rattle.records.specs.declared.events.Event.{Event}

-- the bytes of a body that are still to pass are dropped
pub walk_skip : (place skip : ℕ) (bs : List ℕ) → walk_from place skip bs ≡ walk_from (place + skip) 0 (drop skip bs)
unfolding walk_from
walk_skip place zero bs = rw add-zero
walk_skip place (suc skip) [] = refl
walk_skip place (suc skip) (b ∷ bs) =
    let e : place + suc skip ≡ place + 1 + skip = omega arith in
    rw e (walk_skip (place + 1) skip bs)

-- the walk whose next step is known
abbrev pub on_step : StepAnswer → (ℕ → Walked) → Walked
on_step (event e next) go = and_then e (go next)
on_step end go = ends
on_step (refused number place) go = stops number place

-- a whole event's body is there
pub whole_fits : (kind : ℕ) (bs : List ℕ) → is_whole kind bs ≡ true → body_width kind ≤ length bs
unfolding is_whole
whole_fits kind bs h = leb-true (body_width kind) (length bs) ((and-eq-true_iff (is_event_kind kind) _).0 h).1

module _ (xs : List ℕ) (at : ℕ) where
  abbrev kind : ℕ
  kind = get_or xs at 0

  abbrev body : List ℕ
  body = drop (at + 1) xs

  pub walk_steps : walk_from at 0 (drop at xs) ≡ on_step (step_answer xs at) (λ next. walk_from next 0 (drop next xs))
  unfolding walk_from step_answer
  walk_steps =
      elim (dec_lt at (length xs)) [
        | yes h ↦
            let d : drop at xs ≡ get_or xs at 0 ∷ drop (at + 1) xs = drop-cons xs at 0 h ∙ ap (λ (n : ℕ). get_or xs at 0 ∷ drop n xs) (sym (add-one at)) in
            rw (d, lt-leb (length xs) at h) (go (is_whole (get_or xs at 0) (drop (at + 1) xs)))
        | no h ↦ let l : length xs ≤ at = omega arith in rw (le-leb (length xs) at l, drop_of_length-le xs l)
      ]
    where
      go : (t : Bool) → cond t (and_then (event_from kind body) (walk_from (at + 1) (body_width kind) body)) (stops not_an_event at)
          ≡ on_step (cond t (event (event_from kind body) (at + 1 + body_width kind)) (refused not_an_event at)) (λ next. walk_from next 0 (drop next xs))
      go true = ap (and_then (event_from kind body)) (rw (walk_skip (at + 1) (body_width kind) body) (ap (walk_from (at + 1 + body_width kind) 0) (drop-drop (body_width kind) (at + 1) xs)))
      go false = refl

  -- an event's end is past its start and within the record
  pub step_on : (e : Event) (next : ℕ) → step_answer xs at ≡ event e next → (at < next) × (next ≤ length xs)
  unfolding step_answer
  step_on e next h = inside (leb (length xs) at) refl h
    where
      chosen : (t : Bool) → is_whole kind body ≡ t → at < length xs → cond t (event (event_from kind body) (at + 1 + body_width kind)) (refused not_an_event at) ≡ event e next
          → (at < next) × (next ≤ length xs)
      chosen true q l h =
          let n : at + 1 + body_width kind ≡ next = cc in
          let w : body_width kind ≤ length body = whole_fits kind body q in
          (omega arith, omega (arith, rw length-drop at w))
      chosen false q l h = absurd (let z : ◌≡◌ {A = ℕ} 0 1 = cc in omega arith)

      inside : (t : Bool) → leb (length xs) at ≡ t → cond t end (step_of kind at body) ≡ event e next → (at < next) × (next ≤ length xs)
      inside true q h = absurd (let z : ◌≡◌ {A = ℕ} 0 1 = cc in omega arith)
      inside false q h = chosen (is_whole kind body) refl (leb-false (length xs) at q) h
