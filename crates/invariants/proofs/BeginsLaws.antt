-- Laws of beginnings: each list begins itself and any longer one, beginnings follow on one another, and what stands just behind a beginning.
-- Assumes nothing.
use mathlib.Core.Path.{◌≡◌, refl, sym, ap, ◌∙◌}
use mathlib.Core.List.{List, [], ◌∷◌, ◌++◌, append-nil, append_assoc}
use lib.ListN.{length, get_or}
use Rattle.records.specs.Events.{written}
use Rattle.records.specs.EventLaws.{written_append}
use Rattle.records.specs.declared.events.Event.{Event}
use Rattle.invariants.specs.Begins.{Begins}

module _ {A : Type 0} where
  pub begins_refl : (xs : List A) → Begins xs xs
  begins_refl xs = record { rest = []; is = append-nil xs }

  pub begins_add : (xs ys : List A) → Begins xs (xs ++ ys)
  begins_add xs ys = record { rest = ys; is = refl }

  pub begins_trans : {xs ys zs : List A} → Begins xs ys → Begins ys zs → Begins xs zs
  begins_trans {xs} h k =
      record { rest = h.rest ++ k.rest; is = sym (append_assoc xs h.rest k.rest) ∙ ap (λ (l : List A). l ++ k.rest) h.is ∙ k.is }

  -- the element behind a beginning
  pub get_d_begins : (xs : List A) (x d : A) {zs : List A} → Begins (xs ++ x ∷ []) zs → get_or zs (length xs) d ≡ x
  get_d_begins xs x d h = rw (← h.is) (go xs h.rest)
    where
      go : (xs ys : List A) → get_or ((xs ++ x ∷ []) ++ ys) (length xs) d ≡ x
      go [] ys = refl
      go (z ∷ xs) ys = go xs ys

-- where events begin others, so do their bytes
pub written_begin : {es fs : List Event} → Begins es fs → Begins (written es) (written fs)
written_begin {es} h = record { rest = written h.rest; is = sym (written_append es h.rest) ∙ ap written h.is }
