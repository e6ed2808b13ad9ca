-- A site's record depends on the others only through what was opened to it. Assumes nothing.
use Prim.Native.Nat.{ℕ, suc, ◌+◌, ◌-◌, ◌≤◌}
use mathlib.Core.Path.{◌≡◌, refl, ap, ◌∙◌}
use mathlib.Core.List.{List, [], ◌∷◌}
use mathlib.Core.Logic.{◌⊎◌, inl, inr}
use native.Mathlib.Decide.{dec_le}
use native.Mathlib.Omega.{arith}
use lib.IntN.{ℤ}
use Rattle.refusals.specs.Numbers.{disagreement}
use Rattle.records.specs.Events.{written}
use Rattle.records.specs.declared.events.Event.{Event}
use Rattle.rules.specs.Books.{Book, add}
use Rattle.rules.specs.Single.{Setting}
use Rattle.rules.specs.Joint.{Site, stop, Sites, turn, run_turns, start_all}
use Rattle.invariants.specs.Begins.{Begins}
use Rattle.invariants.specs.Sites.{events_of, site_after}
use Rattle.invariants.proofs.BeginsLaws.{begins_refl, begins_trans, written_begin}
use Rattle.invariants.proofs.Passing.{Passes, same, alone, together, apart, turn_passes, turns_add, over_stays}
use Rattle.demands.specs.Opened.{openings, EndsIn11, Agree}
use Rattle.demands.proofs.OpenedLaws.{openings_begin}
use Rattle.demands.proofs.Alike.{hide_site, hide_events, own_hide}
use Rattle.demands.proofs.Trail.{advance, advance_by, trail, trail_adds, part_known}

-- ---- each site follows its trail

-- a site is somewhere on the trail from s₀
record Follows (S : Setting) (P : ℕ) (L : List ℤ) (s₀ s : Site) : Type 0 where
  place : ℕ
  is : hide_site s ≡ trail S P L s₀ place

-- a site has stopped with 11
record Gone (s : Site) : Type 0 where
  node : ℕ
  book : Book
  is : s ≡ stop disagreement node book

module _ (S : Setting) (P : ℕ) (L : List ℤ) (s₀ : Site) where
  next_place : {s s' : Site} → Follows S P L s₀ s → hide_site s' ≡ advance S P L (hide_site s) → Follows S P L s₀ s'
  unfolding trail
  next_place f e = record { place = suc f.place; is = e ∙ ap (advance S P L) f.is }

  passes_follow : (s s' : Site) → Passes S P s s' → Begins (openings (events_of s')) L → Follows S P L s₀ s → Follows S P L s₀ s' ⊎ Gone s'
  unfolding advance advance_by
  passes_follow s s' (same e) h f = inl (rw e f)
  passes_follow s s' (alone c b e w) h f = inl (next_place f (rw (e, ← (own_hide S P c b), w)))
  passes_follow s s' (together c b mt o i e w e') h f = inl (next_place f (rw (e, e', ← (own_hide S P c b), w) (part_known S P c b L mt i (rw e' at h))))
  passes_follow s s' (apart c b e e') h f = inr (record { node = c.node; book = b; is = e' })

  turns_follow : (ts : List ℕ) (J : Sites) → Begins (openings (events_of ((run_turns S ts J).sites P))) L
      → Follows S P L s₀ (J P) ⊎ Gone (J P) → Follows S P L s₀ ((run_turns S ts J).sites P) ⊎ Gone ((run_turns S ts J).sites P)
  unfolding run_turns
  turns_follow [] J h d = d
  turns_follow (Q ∷ ts) J h d = turns_follow ts (turn S Q J).sites h (go d)
    where
      go : Follows S P L s₀ (J P) ⊎ Gone (J P) → Follows S P L s₀ ((turn S Q J).sites P) ⊎ Gone ((turn S Q J).sites P)
      go (inl f) = passes_follow (J P) ((turn S Q J).sites P) (turn_passes S Q J P) (begins_trans (openings_begin (turns_add S P ts (turn S Q J).sites)) h) f
      go (inr g) = inr (rw (over_stays S P (J P) ((turn S Q J).sites P) _ _ (turn_passes S Q J P) g.is) g)

  -- two sites on one trail have records of which one begins the other
  on_one_trail : (s s' : Site) → Follows S P L s₀ s → Follows S P L s₀ s' → Agree (events_of s) (events_of s')
  on_one_trail s s' f g = go (dec_le f.place g.place)
    where
      later : (t t' : Site) (x : Follows S P L s₀ t) (y : Follows S P L s₀ t') → x.place ≤ y.place → Begins (events_of t) (events_of t')
      later t t' x y h =
          let d : y.place - x.place + x.place ≡ y.place = omega arith in
          rw (← (hide_events t), ← (hide_events t'), x.is, y.is, ← d) (trail_adds S P L s₀ x.place (y.place - x.place))

      go : Dec (f.place ≤ g.place) → Agree (events_of s) (events_of s')
      go (yes h) = inl (later s s' f g h)
      go (no h) = inr (later s' s g f (omega arith))

gone_ends : (s : Site) → Gone s → EndsIn11 (events_of s)
unfolding add
gone_ends s g = record { before = g.book.events; node = g.node; is = ap events_of g.is }

follows : (S : Setting) (inputs : ℕ → List ℤ) (ts : List ℕ) (P : ℕ) (L : List ℤ) → Begins (openings (events_of (site_after S inputs ts P))) L
    → ¬ EndsIn11 (events_of (site_after S inputs ts P)) → Follows S P L (start_all S inputs P) (site_after S inputs ts P)
unfolding trail
follows S inputs ts P L h n = go (turns_follow S P L (start_all S inputs P) ts (start_all S inputs) h (inl (record { place = 0; is = refl })))
  where
    go : Follows S P L (start_all S inputs P) (site_after S inputs ts P) ⊎ Gone (site_after S inputs ts P) → Follows S P L (start_all S inputs P) (site_after S inputs ts P)
    go (inl f) = f
    go (inr g) = absurd (n (gone_ends _ g))

-- ---- the theorem

-- Two joint runs, with other turns and other inputs of the others: where site P's inputs are the same and the values opened to it agree as
-- far as both go, and neither record ends in refusal 11, one of P's records begins the other.
pub sites_agree : (S : Setting) (inputs inputs' : ℕ → List ℤ) (ts ts' : List ℕ) (P : ℕ) → inputs P ≡ inputs' P
    → Agree (openings (events_of (site_after S inputs ts P))) (openings (events_of (site_after S inputs' ts' P)))
    → ¬ EndsIn11 (events_of (site_after S inputs ts P)) → ¬ EndsIn11 (events_of (site_after S inputs' ts' P))
    → Agree (events_of (site_after S inputs ts P)) (events_of (site_after S inputs' ts' P))
unfolding start_all
sites_agree S inputs inputs' ts ts' P e d n n' = go d
  where
    same_start : start_all S inputs P ≡ start_all S inputs' P
    same_start = rw e

    on : (L : List ℤ) → Begins (openings (events_of (site_after S inputs ts P))) L → Begins (openings (events_of (site_after S inputs' ts' P))) L
        → Agree (events_of (site_after S inputs ts P)) (events_of (site_after S inputs' ts' P))
    on L h h' =
        on_one_trail S P L (start_all S inputs P) (site_after S inputs ts P) (site_after S inputs' ts' P)
        (follows S inputs ts P L h n) (rw same_start (follows S inputs' ts' P L h' n'))

    go : Agree (openings (events_of (site_after S inputs ts P))) (openings (events_of (site_after S inputs' ts' P)))
        → Agree (events_of (site_after S inputs ts P)) (events_of (site_after S inputs' ts' P))
    go (inl h) = on _ h (begins_refl _)
    go (inr h) = on _ (begins_refl _) h

-- the bytes of records agree where the events do
pub written_agree : {es fs : List Event} → Agree es fs → Agree (written es) (written fs)
written_agree (inl h) = inl (written_begin h)
written_agree (inr h) = inr (written_begin h)

-- and the same of the records' bytes
pub records_agree : (S : Setting) (inputs inputs' : ℕ → List ℤ) (ts ts' : List ℕ) (P : ℕ) → inputs P ≡ inputs' P
    → Agree (openings (events_of (site_after S inputs ts P))) (openings (events_of (site_after S inputs' ts' P)))
    → ¬ EndsIn11 (events_of (site_after S inputs ts P)) → ¬ EndsIn11 (events_of (site_after S inputs' ts' P))
    → Agree (written (events_of (site_after S inputs ts P))) (written (events_of (site_after S inputs' ts' P)))
records_agree S inputs inputs' ts ts' P e d n n' = written_agree (sites_agree S inputs inputs' ts ts' P e d n n')
