-- What is printed of a case, by whether it has a whole head. Assumes nothing.
use Rattle.std.specs.Prelude.{◌≡◌, ℕ, ◌-◌, ◌≤◌, ◌<◌, List, [], ◌∷◌, refl, length, take, drop}
use Rattle.std.proofs.Common.{arith, length-drop, take_all}
use Rattle.std.proofs.lemmas.Bool.{lt-ltb, le-ltb}
use Rattle.text.specs.Text.{ascii}
use Rattle.cases.specs.Lending.{lending_of}
use Rattle.cases.specs.declared.lending.Lending.{Lending}
use Rattle.rehearsal.specs.Both.{shown}
use Rattle.vectors.specs.Printed.{case_printed}

pub headless : (bs : List ℕ) → length bs < 13 → ascii "bad input\n" ≡ case_printed bs
unfolding case_printed
headless bs h = rw (lt-ltb (length bs) 13 h) refl

-- the same, as the code's bytes
pub headless_bytes : (bs : List ℕ) → length bs < 13 → case_printed bs ≡ 98 ∷ 97 ∷ 100 ∷ 32 ∷ 105 ∷ 110 ∷ 112 ∷ 117 ∷ 116 ∷ 10 ∷ []
unfolding ascii
headless_bytes bs h = rw (← headless bs h) refl

pub headed : (bs : List ℕ) (l : Lending) → l ≡ lending_of bs → 13 ≤ length bs → shown l (take (length bs - 13) (drop 13 bs)) ≡ case_printed bs
unfolding case_printed
headed bs l e h =
    let whole : length (drop 13 bs) ≤ length bs - 13 = omega (arith, length-drop {A = ℕ}) in
    rw (e, le-ltb (length bs) 13 h, take_all (length bs - 13) (drop 13 bs) whole) refl
