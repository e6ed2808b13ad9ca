-- Turns one after the other: what a turn in its row comes to, turns that led on, and the single run, whose one row is all there is. Assumes nothing.
use mathlib.Core.Path.{◌≡◌, refl, sym, ap, ◌∙◌, subst}
use mathlib.Core.Bool.{Bool, true, false}
use mathlib.Core.List.{List, append-nil}
use Prim.Native.Nat.{ℕ, zero, suc, ◌+◌, ◌*◌, ◌≤◌, ◌<◌}
use native.Mathlib.Omega.{arith}
use lib.ListN.{length, take, length-append, length-drop, drop_of_length-le}
use lib.Seq.{take_all, length-take-le}
use Rattle.std.specs.Prelude.{Option, Some, None, IsSome}
use Rattle.rules.specs.declared.effects.View.TheVariants.{Whole}
use Rattle.area.specs.Rows.{row_size, area_of, back}
use Rattle.area.specs.declared.stand.Stand.{Stand}
use Rattle.area.specs.declared.stand.Next.TheVariants.{On, Ends, Full}
use Rattle.seats.specs.declared.Seat.TheVariants.{Running}
use Rattle.advance.specs.Advances.{Advances, Moves, GoesFar}
use Rattle.advance.specs.Strides.{whose, view_of, RowsFit, onward, leads, Kept, StepsInRow, InRow, LeadsOn, AmongRows, Led, StridesTo}
use Rattle.advance.specs.declared.Advanced.{Advanced}
use Rattle.advance.specs.declared.Advanced.TheVariants.{Moved, Asks, Joins}
use Rattle.advance.specs.declared.strides.Did.{Did}
use Rattle.advance.specs.declared.strides.Strode.{Strode}
use Rattle.advance.proofs.AdvanceLaws.{no_moves, one_more}

-- ---- a turn in its row
-- where another step may follow, a move led on
onward_is : (y : Advanced) (t : Stand) → Some t ≡ onward y → y ≡ Moved (On t)
onward_is (Moved (On u)) t e = let same : t ≡ u = cc in ap (λ (x : Stand). Moved (On x)) (sym same)
onward_is (Moved (Ends v)) t e = absurd cc
onward_is (Moved Full) t e = absurd cc
onward_is (Asks effect) t e = absurd cc
onward_is Joins t e = absurd cc

module _ (joint : Bool) (P : ℕ) (bs : List ℕ) (nodes : ℕ) (t : Stand) (w : List ℕ) where
  -- one that led on
  pub row_leads : (came : Option Did) (u : Stand) (w' : List ℕ) → Some u ≡ leads came → InRow joint P bs nodes t came w w' → LeadsOn joint P bs nodes t u w w'
  row_leads (Some did) u w' e r =
      record {
        stand = did.stand;
        sits = r.sits;
        between = r.between;
        advances = subst (λ (z : Advanced). Advances (view_of joint P) bs nodes did.stand z w r.between) (onward_is did.came u e) r.advances;
        keeps = subst (λ (o : Option Stand). Kept joint o r.between w') (sym e) r.keeps;
      }
  row_leads None u w' e r = absurd cc

-- ---- turns that led on
module _ (joint : Bool) (ts bs : List ℕ) (nodes first : ℕ) (t : Stand) (w : List ℕ) where
  pub led_none : Led joint ts bs nodes first 0 t w t w
  unfolding Led
  led_none = (refl, refl)

  -- another one
  pub led_more : (k : ℕ) (s u : Stand) (x v : List ℕ) → Led joint ts bs nodes first k t w s x
      → AmongRows (whose joint ts (first + k)) (LeadsOn joint (whose joint ts (first + k)) bs nodes s u) x v → Led joint ts bs nodes first (k + 1) t w u v
  unfolding Led
  led_more k s u x v h a = let next : k + 1 ≡ suc k = omega arith in rw next (s, x, h, a)

  -- what each turn keeps, the turns keep
  pub led_keep : (P : ℕ → Stand → List ℕ → Type 0) → P 0 t w
      → ((k : ℕ) (s u : Stand) (x v : List ℕ) → P k s x → AmongRows (whose joint ts (first + k)) (LeadsOn joint (whose joint ts (first + k)) bs nodes s u) x v → P (k + 1) u v)
      → (k : ℕ) (u : Stand) (v : List ℕ) → Led joint ts bs nodes first k t w u v → P k u v
  unfolding Led
  led_keep P start keeps zero u v (same, bytes) = subst (λ (x : List ℕ). P 0 u x) bytes (subst (λ (s : Stand). P 0 s w) same start)
  led_keep P start keeps (suc k) u v (s, x, h, a) = let next : k + 1 ≡ suc k = omega arith in subst (λ (j : ℕ). P j u v) next (keeps k s u x v (led_keep P start keeps k s x h) a)

-- ---- one turn among the rows

-- the row whose turn it is is there
pub turn_fits : (joint : Bool) (ts : List ℕ) (first most long : ℕ) → RowsFit joint ts long → (joint ≡ true → first + most ≤ length ts) → (k P : ℕ) → k < most → P ≡ whose joint ts (first + k)
    → P * row_size + row_size ≤ long
turn_fits joint ts first most long fit enough k P few is = rw is (fit (first + k) (λ h. let l : first + most ≤ length ts = enough h in omega arith))

-- and is there as long as the rows keep their length
pub row_there : (joint : Bool) (ts : List ℕ) (first most : ℕ) (w w' : List ℕ) → RowsFit joint ts (length w) → (joint ≡ true → first + most ≤ length ts) → (k P : ℕ) → k < most → P ≡ whose joint ts (first + k)
    → length w' ≡ length w → P * row_size + row_size ≤ length w'
row_there joint ts first most w w' fit enough k P few is same = rw same (turn_fits joint ts first most (length w) fit enough k P few is)

pub back_length : (P : ℕ) (xs ys : List ℕ) → P * row_size + row_size ≤ length xs → length ys ≡ row_size → length (back row_size P xs ys) ≡ length xs
back_length P xs ys fits long =
    let before : length (take (P * row_size) xs) ≡ P * row_size = length-take-le (P * row_size) xs (omega arith) in
    rw (length-append, length-append, length-drop, length-drop, before, long) (omega arith)

module _ (joint : Bool) (ts bs : List ℕ) (nodes first : ℕ) (s : Stand) (x : List ℕ) (k P : ℕ) (turn : P ≡ whose joint ts (first + k)) (came : Option Did)
    (ys : List ℕ) (here : InRow joint P bs nodes s came (area_of P x) ys) (long : length ys ≡ row_size) where
  -- it led on
  pub turn_on : (t : Stand) (w : List ℕ) → Led joint ts bs nodes first k t w s x → (u : Stand) → Some u ≡ leads came
      → Led joint ts bs nodes first (k + 1) t w u (back row_size P x ys)
  turn_on t w h u to =
      let l : LeadsOn joint P bs nodes s u (area_of P x) ys = row_leads joint P bs nodes s (area_of P x) came u ys to here in
      led_more joint ts bs nodes first t w k s u x (back row_size P x ys) h
      (subst (λ (p : ℕ). AmongRows p (LeadsOn joint p bs nodes s u) x (back row_size P x ys)) turn (ys, l, long, refl))

-- ---- the single run, whose one row is all there is
module _ (w : List ℕ) (full : length w ≡ row_size) where
  row_whole : area_of 0 w ≡ w
  row_whole = take_all row_size w (omega arith)

  back_whole : (ys : List ℕ) → back row_size 0 w ys ≡ ys
  back_whole ys = rw (drop_of_length-le w {i = row_size} (omega arith)) (append-nil ys)

  -- a turn of the single run is one in all of its bytes
  pub single_turn : (turn : List ℕ → List ℕ → Type 0) (w' : List ℕ) → AmongRows 0 turn w w' → turn w w' × (length w' ≡ row_size)
  single_turn turn w' (ys, h, long, is) =
      let same : w' ≡ ys = is ∙ back_whole ys in
      rw same (subst (λ (x : List ℕ). turn x ys) row_whole h, long)

module _ (bs : List ℕ) (nodes : ℕ) where
  running_is : (s t : Stand) → Running s ≡ Running t → s ≡ t
  running_is s t e = cc

  single_move : (P : ℕ) (t u : Stand) (w w' : List ℕ) → LeadsOn false P bs nodes t u w w' → Advances Whole bs nodes t (Moved (On u)) w w'
  single_move P t u w w' l =
      let here : l.stand ≡ t = running_is l.stand t l.sits in
      let after : w' ≡ l.between = l.keeps.same refl in
      rw (sym here, after) l.advances

  pub led_moves : (ts : List ℕ) (first : ℕ) (t : Stand) (w : List ℕ) → length w ≡ row_size → (k : ℕ) (u : Stand) (v : List ℕ) → Led false ts bs nodes first k t w u v
      → Moves Whole bs nodes k t w u v × (length v ≡ row_size)
  led_moves ts first t w full =
      led_keep false ts bs nodes first t w (λ k u v. Moves Whole bs nodes k t w u v × (length v ≡ row_size)) (no_moves Whole bs nodes t w, full)
      (λ k s u x v h a.
      let (led, long) = single_turn x h.1 (LeadsOn false 0 bs nodes s u) v a in
      (one_more Whole bs nodes t w k s u x v h.0 (single_move 0 s u x v led), long))

  single_kept : (o : Option Stand) (w w' : List ℕ) → Kept false o w w' → w' ≡ w
  single_kept (Some u) w w' k = k.same refl
  single_kept None w w' k = k

  -- the last turn, in the row that led there
  far_last : (ts : List ℕ) (first : ℕ) (t : Stand) (most : ℕ) (r : Strode) (w w' : List ℕ) → length w ≡ row_size → StridesTo false ts bs nodes first t most r w w'
      → (r.moves < most) × (u : Stand) × (v : List ℕ) × Moves Whole bs nodes r.moves t w u v × InRow false 0 bs nodes u r.came v w'
  far_last ts first t most r w w' full goes =
      let (few, u, v, led, last) = goes in
      let (moves, long) = led_moves ts first t w full r.moves u v led in
      (few, u, v, moves, (single_turn v long (InRow false 0 bs nodes u r.came) w' last).0)

  -- it is a step: no seat is over
  row_steps : (u : Stand) (v w' : List ℕ) (came : Option Did) → InRow false 0 bs nodes u came v w' → IsSome came
  row_steps u v w' (Some did) row = refl
  row_steps u v w' None row = absurd row.0

  module _ (ts : List ℕ) (first : ℕ) (t : Stand) (most : ℕ) (r : Strode) (w w' : List ℕ) (full : length w ≡ row_size) (goes : StridesTo false ts bs nodes first t most r w w') where
    pub far_some : IsSome r.came
    far_some =
        let (few, u, v, moves, row) = far_last ts first t most r w w' full goes in
        row_steps u v w' r.came row

    pub far_did : (did : Did) → r.came ≡ Some did → GoesFar Whole bs nodes t most (record { moves = r.moves; stand = did.stand; came = did.came }) w w'
    far_did did is =
        let (few, u, v, moves, row) = far_last ts first t most r w w' full goes in
        let step : StepsInRow false 0 bs nodes u did v w' = subst (λ (x : Option Did). InRow false 0 bs nodes u x v w') is row in
        let here : did.stand ≡ u = running_is did.stand u step.sits in
        let same : w' ≡ step.between = single_kept (onward did.came) step.between w' step.keeps in
        (few, v, rw here moves, subst (λ (x : List ℕ). Advances Whole bs nodes did.stand did.came v x) (sym same) step.advances)
