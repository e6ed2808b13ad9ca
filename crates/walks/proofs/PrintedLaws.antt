-- Three writes, of which the last is the answer, are one of all that they wrote. Assumes nothing.
use Rattle.std.specs.Prelude.{◌≡◌, ℕ, List, ◌++◌, Option, Result, Ok, Err, OnOk}
use Rattle.std.specs.Io.KnownBytes.{Appends}
use Rattle.std.proofs.Common.{subst, append_assoc}
use Rattle.std.proofs.KnownBytes.{Appends-trans}

pub appended : {T E : Type 0} (w x y z : Option (List ℕ)) (s t u v : List ℕ) (r : Result T E) → Appends w x (s ++ t) → Appends x y u → OnOk r (Appends y z v) → OnOk r (Appends w z (s ++ (t ++ (u ++ v))))
appended w x y z s t u v (Ok n) p q h =
    let e : (s ++ t) ++ (u ++ v) ≡ s ++ (t ++ (u ++ v)) = simp append_assoc in
    subst (Appends w z) e (Appends-trans w x z (s ++ t) (u ++ v) p (Appends-trans x y z u v q h))
appended w x y z s t u v (Err e) p q h = tt
