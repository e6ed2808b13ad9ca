-- A meeting is concluded: a member's part, one site's, and all of them one after the other. Assumes nothing.
use mathlib.Core.Path.{◌≡◌, refl, sym, ap, ◌∙◌, subst}
use mathlib.Core.Bool.{true, false, ◌&&◌, cond}
use mathlib.Core.List.{List, [], ◌∷◌}
use Prim.Native.Nat.{ℕ, ◌+◌, ◌*◌, ◌≤◌, ◌<◌}
use native.Mathlib.Decide.{dec_lt, ℕ_discrete}
use native.Mathlib.Omega.{arith}
use borrow.Author.Tests.{lt-ltb, le-ltb}
use types.Run.{miss}
use Rattle.std.specs.Prelude.{Option, Some, None}
use lib.Dec.{ltb}
use lib.ListN.{length, get_or, set}
use Rattle.parties.specs.Sets.{member, meet, all}
use Rattle.parties.specs.SetLaws.{below_member}
use Rattle.limits.specs.declared.Party.{Party}
use Rattle.parties.specs.declared.sets.PartySet.{PartySet}
use Rattle.values.specs.Values.{slice}
use Rattle.records.specs.Events.{held_back}
use Rattle.refusals.specs.Numbers.{disagreement}
use Rattle.rules.specs.Books.{Book, used, handed, event_of}
use Rattle.area.specs.Rows.{row_size, row, area_of, back}
use Rattle.rules.specs.Single.{Setting}
use Rattle.rules.specs.Joint.{Site, Sites, running, stop, parts, put_all, book_of}
use Rattle.rules.specs.declared.effects.Move.TheVariants.{Hand}
use Rattle.invariants.specs.Room.{Fits}
use Rattle.area.specs.Levels.{control_of}
use Rattle.seats.specs.Seats.{seat_at, seated, site_of}
use Rattle.area.specs.declared.stand.Stand.{Stand}
use Rattle.seats.specs.declared.Seat.{Seat}
use Rattle.seats.specs.declared.Seat.TheVariants.{Running, Finished, Stopped}
use Rattle.acts.specs.Acts.{Took, Takes, Settles}
use Rattle.meets.specs.Places.{setting_of, Given, Stands}
use Rattle.concludes.specs.Concludes.{concluding, TakesPart, ConcludesOne, ConcludesAll}
use Rattle.concludes.specs.declared.Joined.{Joined}
use Rattle.area.proofs.RowLaws.{row_length}
use Rattle.concludes.proofs.StandLaws.{NotRunning, stands_same, stands_length, stands_long, stands_changed}

-- ---- a member's part, on its own record and area
module _ (outcome : Option Joined) (t : Stand) (P : Party) (u : ℕ) (xs w : List ℕ) (u' : ℕ) (xs' w' : List ℕ) where
  pub parts_with : outcome ≡ None → Takes (stop disagreement t.node) u xs w u' xs' w' → TakesPart outcome t P u xs w u' xs' w'
  unfolding parts control_of
  parts_with q s = rw q (record { part = λ p b o h. s.took b o h; table = s.table })

  pub joins_in : (j : Joined) → outcome ≡ Some j → Settles (event_of j.meeting j.number) (Hand (slice P.index (handed j.meeting j.number))) t P u xs w u' xs' w'
      → TakesPart outcome t P u xs w u' xs' w'
  joins_in j q s = rw q (record { part = λ p b e h. (s.settles (setting_of p (length xs)) refl).took b e h; table = s.table })

-- ---- one site
-- who runs no more comes to nothing else
over_stays : (outcome : Option Joined) (S : Setting) (P : ℕ) (seat : Seat) (w : List ℕ) (b : Book) → NotRunning seat → concluding outcome S P (seated seat w b) ≡ seated seat w b
unfolding parts
over_stays outcome S P (Running t) w b h = absurd (miss (1 ∷ 2 ∷ []) 0 tt h)
over_stays (Some j) S P Finished w b h = refl
over_stays None S P Finished w b h = refl
over_stays (Some j) S P Stopped w b h = refl
over_stays None S P Stopped w b h = refl

module _ (outcome : Option Joined) (P room : ℕ) (bytes lengths work : List ℕ) (seat : Seat) (sits : seat ≡ seat_at (area_of P work)) where
  pub member_over : NotRunning seat → ConcludesOne outcome P room bytes lengths work bytes lengths work
  unfolding site_of
  member_over h =
      record {
        comes = λ bs nodes n G J J' inside st own others.
            let S : Setting = setting_of G.program room in
            let e : J P ≡ seated seat (area_of P work) (book_of (J P)) = st.sits P inside ∙ rw (← sits) in
            let k : concluding outcome S P (J P) ≡ J P = ap (concluding outcome S P) e ∙ over_stays outcome S P seat (area_of P work) (book_of (J P)) h ∙ sym e in
            stands_same G J J' bytes lengths work st
            (λ Q h. elim (ℕ_discrete Q P) [
              | yes e ↦ rw e (own ∙ k)
              | no d ↦ others Q d
            ]);
      }

  module _ (t : Stand) (runs : seat ≡ Running t) (u' : ℕ) (ys ws : List ℕ) (area : length ws ≡ row_size) (long : P * row_size + row_size ≤ length work)
      (takes : TakesPart outcome t (record { index = P }) (get_or lengths P 0) (row room P bytes) (area_of P work) u' ys ws) where
    pub member_runs : ConcludesOne outcome P room bytes lengths work (back room P bytes ys) (set lengths P u') (back row_size P work ws)
    unfolding site_of
    member_runs =
        record {
          comes = λ bs nodes n G J J' inside st own others.
              let S : Setting = setting_of G.program room in
              let b : Book = book_of (J P) in
              let c : J P ≡ running (control_of t (area_of P work)) b = st.sits P inside ∙ rw (← sits, runs) in
              let room_is : length (row room P bytes) ≡ room = row_length room P bytes (stands_long G J J bytes lengths work st P inside) in
              let fits : used b + held_back ≤ room = subst (λ (s : Site). Fits room s) c (st.fits P inside) in
              let count : used b ≡ get_or lengths P 0 = stands_length G J J bytes lengths work st P inside in
              let k : Took b (concluding outcome (setting_of G.program (length (row room P bytes))) P (running (control_of t (area_of P work)) b)) (get_or lengths P 0) (row room P bytes) u' ys ws
              = takes.part G.program b count (rw (← count, room_is) fits) in
              let s : J' P ≡ concluding outcome (setting_of G.program (length (row room P bytes))) P (running (control_of t (area_of P work)) b)
              = own ∙ ap (concluding outcome S P) c ∙ ap (λ (R : ℕ). concluding outcome (setting_of G.program R) P (running (control_of t (area_of P work)) b)) (sym room_is) in
              stands_changed G J J' bytes lengths work st P inside others u' ys ws long area
              (subst (λ (x : Site). Took b x (get_or lengths P 0) (row room P bytes) u' ys ws) (sym s) k) takes.table;
        }

-- ---- all members, one after the other
-- the sites once those below k have come to their conclusion
unfoldable pub below : ℕ → PartySet → (ℕ → Site → Site) → Sites → Sites
below k m f J = λ Q. cond (ltb Q k && member Q m) (f Q (J Q)) (J Q)

below_own : (k : ℕ) (m : PartySet) (f : ℕ → Site → Site) (J : Sites) → below (k + 1) m f J k ≡ cond (member k m) (f k (below k m f J k)) (below k m f J k)
unfolding below
below_own k m f J = rw (lt-ltb k (k + 1) (omega arith), le-ltb k k (omega arith))

below_other : (k : ℕ) (m : PartySet) (f : ℕ → Site → Site) (J : Sites) (Q : ℕ) → (Q ≡ k → ⊥) → below (k + 1) m f J Q ≡ below k m f J Q
unfolding below
below_other k m f J Q d =
    elim (dec_lt Q k) [
      | yes l ↦ rw (lt-ltb Q k l, lt-ltb Q (k + 1) (omega arith))
      | no l ↦ rw (le-ltb Q k (omega arith), le-ltb Q (k + 1) (omega arith))
    ]

-- the bytes hold the sites once those of s below k have come to their conclusion
pub record Going (outcome : Option Joined) (s : PartySet) (n room : ℕ) (bytes₀ lengths₀ work₀ bytes lengths work : List ℕ) (k : ℕ) : Type 0 where
  pub so : (bs : List ℕ) (nodes : ℕ) (G : Given bs nodes room n) (J : Sites) → Stands G J bytes₀ lengths₀ work₀ → Stands G (below k s (concluding outcome (setting_of G.program room)) J) bytes lengths work

module _ {outcome : Option Joined} {s : PartySet} {n room : ℕ} {bytes₀ lengths₀ work₀ : List ℕ} where
  pub going_none : Going outcome s n room bytes₀ lengths₀ work₀ bytes₀ lengths₀ work₀ 0
  unfolding below
  going_none =
      record { so = λ bs nodes G J st. stands_same G J (below 0 s (concluding outcome (setting_of G.program room)) J) bytes₀ lengths₀ work₀ st (λ Q h. rw (le-ltb Q 0 (omega arith))) }

  module _ {bytes lengths work : List ℕ} {k : ℕ} (g : Going outcome s n room bytes₀ lengths₀ work₀ bytes lengths work k) where
    -- who is no member does nothing
    pub going_out : member k s ≡ false → Going outcome s n room bytes₀ lengths₀ work₀ bytes lengths work (k + 1)
    going_out out =
        record {
          so = λ bs nodes G J st.
              let f : ℕ → Site → Site = concluding outcome (setting_of G.program room) in
              stands_same G (below k s f J) (below (k + 1) s f J) bytes lengths work (g.so bs nodes G J st)
              (λ Q h. elim (ℕ_discrete Q k) [
                | yes e ↦ rw e (below_own k s f J ∙ rw out)
                | no d ↦ below_other k s f J Q d
              ]);
        }

    pub going_more : {bytes' lengths' work' : List ℕ} → k < n → member k s ≡ true → ConcludesOne outcome k room bytes lengths work bytes' lengths' work'
        → Going outcome s n room bytes₀ lengths₀ work₀ bytes' lengths' work' (k + 1)
    going_more h i c =
        record {
          so = λ bs nodes G J st.
              let f : ℕ → Site → Site = concluding outcome (setting_of G.program room) in
              c.comes bs nodes n G (below k s f J) (below (k + 1) s f J) h (g.so bs nodes G J st) (below_own k s f J ∙ rw i) (below_other k s f J);
        }

  pub going_all : {bytes lengths work : List ℕ} (m : PartySet) → s ≡ meet m (all n) → Going outcome s n room bytes₀ lengths₀ work₀ bytes lengths work n
      → ConcludesAll outcome m n room bytes₀ lengths₀ work₀ bytes lengths work
  unfolding below put_all
  going_all {bytes} {lengths} {work} m is g =
      record {
        comes = λ bs nodes G J st.
            let f : ℕ → Site → Site = concluding outcome (setting_of G.program room) in
            stands_same G (below n s f J) (put_all m f J) bytes lengths work (g.so bs nodes G J st) (λ Q h. rw (lt-ltb Q n h, is, below_member Q n m h));
      }
