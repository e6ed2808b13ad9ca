-- The inputs to come of the sites: what an act and a meeting leave of them. Assumes nothing.
use mathlib.Core.Path.{◌≡◌, refl, sym, ◌∙◌, subst}
use mathlib.Core.Bool.{Bool, true, false, cond}
use mathlib.Core.List.{List, [], ◌∷◌}
use mathlib.Core.Option.{Option, none, some}
use Prim.Native.Nat.{ℕ, zero, suc, ◌+◌, ◌-◌, ◌<◌}
use native.Mathlib.Decide.{ℕ_discrete}
use native.Mathlib.Omega.{arith}
use Rattle.std.specs.Prelude.{Option as Option', Result, Ok, Err}
use lib.IntN.{ℤ, pos}
use lib.ListN.{length, get_or, set, take, drop}
use lib.Seq.{take-nil, drop-drop, get_or-set_same, get_or-set_other}
use Rattle.parties.specs.declared.sets.PartySet.{PartySet}
use Rattle.values.specs.Values.{slice}
use Rattle.values.specs.declared.value.Value.TheVariants.{Clear}
use Rattle.records.specs.declared.events.Event.{Event}
use Rattle.records.specs.declared.events.Event.TheVariants.{Read, Wrote}
use Rattle.refusals.specs.Numbers.{no_room}
use Rattle.rules.specs.Books.{Book, handed, event_of, event_for, room_for, add, note}
use Rattle.rules.specs.Moves.{Control, Next, on, ends, full, move}
use Rattle.rules.specs.Single.{Setting}
use Rattle.rules.specs.Joint.{Site, Sites, Own, acts, attends, running, over, stop, land, settle, read_own, own, joins_by, joins, parts, meeting}
use Rattle.rules.specs.declared.effects.Move.{Move}
use Rattle.rules.specs.declared.effects.Move.TheVariants.{Hand}
use Rattle.rules.specs.declared.effects.Meeting.{Meeting}
use Rattle.rules.specs.declared.effects.Effect.{Effect}
use Rattle.rules.specs.declared.effects.Effect.TheVariants.{Refuse, Goes, Reads, Writes, Meets}
use Rattle.invariants.proofs.BookLaws.{none_taken}
use Rattle.invariants.proofs.MeetingLaws.{meeting_each}
use Rattle.inputs.specs.Inputs.{head_of}
use Rattle.site.specs.Own.{acted}
use Rattle.acts.specs.Acts.{obeyed}
use Rattle.meets.specs.Places.{InputsOf, InputsStand}
use Rattle.turn_steps.specs.Steps.{taken_by}

-- a site that runs has these inputs to come
abbrev pub ToCome : List ℤ → Site → Type 0
ToCome is (running c b) = b.inputs ≡ is
ToCome is (over finished b) = Unit {0}

-- ---- one site
land_inputs : (e : ℕ) (next : Next) (b : Book) → ToCome b.inputs (land e next b)
unfolding land
land_inputs e (on c) b = refl
land_inputs e (ends v) b = tt
land_inputs e full b = tt

settle_inputs : (S : Setting) (P : ℕ) (c : Control) (b : Book) (o : Option Event) (mv : Move) → ToCome (note P o b).inputs (settle S P c b o mv)
unfolding settle
settle_inputs S P c b o mv = go (room_for S.room P o b)
  where
    go : (t : Bool) → ToCome (note P o b).inputs (cond t (land c.node (move mv c) (note P o b)) (stop no_room c.node b))
    go true = land_inputs c.node (move mv c) (note P o b)
    go false = tt

-- what a site does by itself takes the inputs that it is said to take
pub acted_inputs : (S : Setting) (P : ℕ) (c : Control) (b : Book) (told : Result Effect ℕ) (input : Option' ℤ) → input ≡ head_of b.inputs
    → ToCome (drop (taken_by told input) b.inputs) (obeyed S P c b told)
unfolding acted read_own note add event_for
acted_inputs S P c b (Ok (Refuse r)) input h = tt
acted_inputs S P c b (Ok (Goes mv)) input h = settle_inputs S P c b none mv
acted_inputs S P c b (Ok Reads) input h = go b.inputs input h refl
  where
    go : (is : List ℤ) (x : Option' ℤ) → x ≡ head_of is → is ≡ b.inputs → ToCome (drop (taken_by (Ok Reads) x) b.inputs) (read_own S P c b is)
    go [] x e q = tt
    go (i ∷ is) x e q = rw e (settle_inputs S P c b (some (Read i)) (Hand (Clear i c.mode)))
acted_inputs S P c b (Ok (Writes i)) input h = settle_inputs S P c b (some (Wrote i)) (Hand (Clear (pos 0) c.mode))
acted_inputs S P c b (Ok (Meets mt o)) input h = refl
acted_inputs S P c b (Err number) input h = tt

-- ---- inputs in the lent list
drop_take : (k m : ℕ) (xs : List ℤ) → drop k (take m xs) ≡ take (m - k) (drop k xs)
drop_take zero m xs = let z : m - 0 ≡ m = omega arith in rw z
drop_take (suc k) zero xs = let z : 0 - suc k ≡ 0 = omega arith in rw z
drop_take (suc k) (suc m) [] = rw take-nil
drop_take (suc k) (suc m) (x ∷ xs) = let z : suc m - suc k ≡ m - k = omega arith in rw z (drop_take k m xs)

-- k more of them are taken
shift : (k e a : ℕ) (is : List ℤ) → drop k (take (e - a) (drop a is)) ≡ take (e - (a + k)) (drop (a + k) is)
shift k e a is =
    let q : e - (a + k) ≡ e - a - k = omega arith in
    rw (q, ← drop-drop k a is) (drop_take k (e - a) (drop a is))

module _ (is : List ℤ) (end at : List ℕ) (P : ℕ) where
  -- a site whose inputs to come are the same has them where they were
  pub inputs_of : (s : Site) (xs : List ℤ) (at' : List ℕ) → ToCome xs s → xs ≡ take (get_or end P 0 - get_or at' P 0) (drop (get_or at' P 0) is) → InputsOf is end at' P s
  inputs_of (running c b) xs at' t e = t ∙ e
  inputs_of (over finished b) xs at' t e = tt

  pub inputs_joined : (S : Setting) (i : ℤ) (s : Site) → InputsOf is end at P s → InputsOf is end at P (joins S i P s)
  unfolding joins joins_by
  inputs_joined S i (running c b) h = go (own S P c b)
    where
      go : (r : Own) → InputsOf is end at P (joins_by S i P c b r)
      go (acts s) = h
      go (attends mt o) =
          inputs_of (settle S P c b (some (event_of mt i)) (Hand (slice P (handed mt i)))) (note P (some (event_of mt i)) b).inputs at
          (settle_inputs S P c b (some (event_of mt i)) (Hand (slice P (handed mt i)))) (none_taken P mt i b ∙ h)
  inputs_joined S i (over finished b) h = tt

  pub inputs_parted : (s : Site) → InputsOf is end at P s → InputsOf is end at P (parts P s)
  unfolding parts
  inputs_parted (running c b) h = tt
  inputs_parted (over finished b) h = tt

-- ---- all sites, after a meeting
module _ (is : List ℤ) (end at : List ℕ) (n : ℕ) (J : Sites) (h : InputsStand is end n at J) where
  pub meeting_inputs : (S : Setting) (e : ℕ) (m : PartySet) (mt : Meeting) → InputsStand is end n at (meeting S e m mt J).sites
  meeting_inputs S e m mt P l =
      meeting_each S (λ Q s s'. InputsOf is end at Q s → InputsOf is end at Q s') (λ Q s k. k) (λ Q s. inputs_parted is end at Q s) J e m mt
      (λ i b q Q s. inputs_joined is end at Q S i s) P (h P l)

-- ---- site P acted by itself, and its next input is k further on
pub acted_stand : (is : List ℤ) (end at : List ℕ) (n : ℕ) (J J' : Sites) (P : ℕ) (S : Setting) (c : Control) (b : Book) (told : Result Effect ℕ) (input : Option' ℤ) (k : ℕ) → P < length at
    → InputsStand is end n at J → P < n → J P ≡ running c b → J' P ≡ obeyed S P c b told → ((Q : ℕ) → (Q ≡ P → ⊥) → J' Q ≡ J Q) → input ≡ head_of b.inputs → k ≡ taken_by told input
    → InputsStand is end n (set at P (get_or at P 0 + k)) J'
acted_stand is end at n J J' P S c b told input k place h inside runs own others head e Q l =
    elim (ℕ_discrete Q P) [
      | yes q ↦
          let at' : List ℕ = set at P (get_or at P 0 + k) in
          let same : b.inputs ≡ take (get_or end P 0 - get_or at P 0) (drop (get_or at P 0) is) = subst (InputsOf is end at P) runs (h P inside) in
          let moved : drop (taken_by told input) b.inputs ≡ take (get_or end P 0 - get_or at' P 0) (drop (get_or at' P 0) is)
          = rw (get_or-set_same at P (get_or at P 0 + k) 0 place, ← e, same) (shift k (get_or end P 0) (get_or at P 0) is) in
          rw q (rw own (inputs_of is end at P (obeyed S P c b told) (drop (taken_by told input) b.inputs) at' (acted_inputs S P c b told input head) moved))
      | no d ↦ rw (others Q d) (elsewhere (J Q) (h Q l) (sym (get_or-set_other at P Q (get_or at P 0 + k) 0 d)))
    ]
  where
    elsewhere : (s : Site) → InputsOf is end at Q s → get_or at Q 0 ≡ get_or (set at P (get_or at P 0 + k)) Q 0 → InputsOf is end (set at P (get_or at P 0 + k)) Q s
    elsewhere (running c b) t g = rw (← g) t
    elsewhere (over finished b) t g = tt
