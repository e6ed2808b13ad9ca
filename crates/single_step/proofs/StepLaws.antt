-- A step in the lent bytes, from what its parts say: arriving, moving, settling. Assumes nothing.
use mathlib.Core.Path.{◌≡◌, refl, sym, ap, ◌∙◌, subst}
use mathlib.Core.Bool.{Bool, true, false, cond}
use mathlib.Core.List.{List}
use mathlib.Core.Option.{some}
use Rattle.std.specs.Prelude.{Ok, Err}
use Prim.Native.Nat.{ℕ, zero, suc, ◌≤◌, ◌<◌}
use native.Mathlib.Omega.{arith}
use lib.ListN.{length, get_or}
use Rattle.parties.specs.declared.sets.PartySet.{PartySet}
use Rattle.values.specs.Values.{slice}
use Rattle.values.specs.declared.value.Value.{Value}
use Rattle.program.specs.Check.{Program}
use Rattle.records.specs.Events.{finished, has_room}
use Rattle.records.specs.declared.events.Event.{Event}
use Rattle.refusals.specs.Numbers.{no_room}
use Rattle.refusals.specs.declared.Refusal.{Refusal}
use Rattle.refusals.specs.declared.Refusal.TheVariants.{NoRoom, TooDeep}
use Rattle.rules.specs.Books.{Books, used, event_for, room_for, add}
use Rattle.rules.specs.Moves.{move}
use Rattle.rules.specs.Moves as Moves
use Rattle.rules.specs.Single.{Single, stopped, all_of, note_all, arrive, settle_all}
use Rattle.rules.specs.declared.effects.Move.{Move}
use Rattle.rules.specs.declared.effects.Move.TheVariants.{Hand}
use Rattle.area.specs.Levels.{control_of, next_of, Goes}
use Rattle.area.specs.declared.stand.Stand.{Stand}
use Rattle.area.specs.declared.stand.Next.{Next}
use Rattle.area.specs.declared.stand.Next.TheVariants as Next'
use Rattle.ledger.specs.Ledger.{Holds, rooms_for, NotesAll, FinishesAll}
use Rattle.single_step.specs.Steps.{Comes, Arrives, Moved, Settles}
use Rattle.single_step.specs.declared.Stepped.{Stepped}
use Rattle.single_step.specs.declared.Stepped.TheVariants.{On, Ended, Stopped}
use Rattle.ledger.proofs.RowLaws.{holds_length}

-- ---- arriving

module _ (room n : ℕ) (xs ls : List ℕ) where
  pub arrives_on : (t : Stand) → Arrives room n (Next'.On t) (On t) xs ls xs ls
  unfolding arrive next_of
  arrives_on t = record { comes = λ G k e b work at st. (b, refl, st) }

  pub arrives_end : (v : Value) (xs' ls' : List ℕ) → FinishesAll room n v xs ls xs' ls' → Arrives room n (Next'.Ends v) Ended xs ls xs' ls'
  unfolding arrive next_of
  arrives_end v xs' ls' f =
      record {
        comes = λ G k e b work at st. (v, (λ P. add (finished (slice P v)) (b P)), refl, f.holds b G.bytes₀ G.lengths₀ G.long G.places st.holds st.fits);
      }

  pub arrives_full : Arrives room n Next'.Full (Stopped TooDeep) xs ls xs ls
  unfolding arrive next_of
  arrives_full = record { comes = λ G k e b work at st. (b, refl, st.holds) }

-- ---- moving

module _ (room n : ℕ) (mv : Move) (t : Stand) (next : Next) (y : Stepped) (xs ls w xs' ls' w' : List ℕ) where
  pub moved_by : Goes next (move mv (control_of t w)) w w' → Arrives room n next y xs ls xs' ls' → Moved room n mv t y xs ls w xs' ls' w'
  moved_by g a =
      record {
        comes = λ G k b at st.
            subst (λ (z : Moves.Next). Comes y G k t.node (arrive k t.node z b) (record { bytes = xs'; lengths = ls'; work = w'; at = at })) g.gives
            (a.comes G k t.node b w' at (record { holds = st.holds; fits = st.fits; inputs = st.inputs }));
        table = g.table;
      }

-- ---- settling

all_same : (n : ℕ) (m : PartySet) (f g : ℕ → Bool) → ((P : ℕ) → P < n → f P ≡ g P) → all_of n m f ≡ all_of n m g
unfolding all_of
all_same zero m f g e = refl
all_same (suc n) m f g e = rw (e n (omega arith), all_same n m f g (λ P h. e P (omega arith)))

-- by the lengths, the members have room where by the books they have
pub rooms_are : (R n : ℕ) (m : PartySet) (ev : Event) (b : Books) (xs₀ ls₀ xs ls : List ℕ) → n ≤ length ls₀ → Holds R n b xs₀ ls₀ xs ls
    → all_of n m (λ P. room_for R P (some ev) (b P)) ≡ rooms_for R n m ev ls
unfolding rooms_for room_for
rooms_are R n m ev b xs₀ ls₀ xs ls h holds =
    all_same n m (λ P. has_room R (used (b P)) (event_for P ev)) (λ P. has_room R (get_or ls P 0) (event_for P ev))
    (λ P l. ap (λ (u : ℕ). has_room R u (event_for P ev)) (sym (holds_length R n b b xs₀ ls₀ xs ls holds P l h)))

module _ (room n : ℕ) (t : Stand) (xs ls w : List ℕ) where
  pub settled_refusal : (r : Refusal) → Settles room n (Err r) t (Stopped r) xs ls w xs ls w
  unfolding control_of
  settled_refusal r = record { comes = λ G p q k b at at' st ins. (b, refl, st.holds); table = refl }

module _ (room n : ℕ) (ev : Event) (v : Value) (t : Stand) (xs ls w : List ℕ) where
  settles_all : (p : Program) → p.parties ≡ n → (k : ℕ) (b : Books) (xs₀ ls₀ : List ℕ) → Holds room n b xs₀ ls₀ xs ls → n ≤ length ls₀ → (has : Bool) → rooms_for room n t.mode ev ls ≡ has
      → settle_all (record { program = p; room = room }) k (control_of t w) b (some ev) (Hand v)
      ≡ cond has (arrive k t.node (move (Hand v) (control_of t w)) (note_all t.mode (some ev) b)) (stopped k no_room t.node b)
  unfolding settle_all control_of
  settles_all p q k b xs₀ ls₀ holds l has r =
      ap (λ (z : Bool). cond z (arrive k t.node (move (Hand v) (control_of t w)) (note_all t.mode (some ev) b)) (stopped k no_room t.node b))
      (ap (λ (i : ℕ). all_of i t.mode (λ P. room_for room P (some ev) (b P))) q ∙ rooms_are room n t.mode ev b xs₀ ls₀ xs ls l holds ∙ r)

  -- every member has room: all note the event, and the value is handed back
  pub settled_by : (y : Stepped) (xs₁ ls₁ xs' ls' w' : List ℕ) → rooms_for room n t.mode ev ls ≡ true → NotesAll room n t.mode ev xs ls xs₁ ls₁
      → Moved room n (Hand v) t y xs₁ ls₁ w xs' ls' w' → Settles room n (Ok (ev, v)) t y xs ls w xs' ls' w'
  settled_by y xs₁ ls₁ xs' ls' w' r a d =
      record {
        comes = λ G p q k b at at' st ins.
            let noted = a.holds b G.bytes₀ G.lengths₀ G.long G.places st.holds st.fits r in
            subst (λ (z : Single). Comes y G k t.node z (record { bytes = xs'; lengths = ls'; work = w'; at = at' }))
            (sym (settles_all p q k b G.bytes₀ G.lengths₀ st.holds G.places true r))
            (d.comes G k (note_all t.mode (some ev) b) at' (record { holds = noted.0; fits = noted.1; inputs = ins }));
        table = d.table;
      }

  -- a member lacks room: nobody notes it, and the run stops
  pub settled_not : rooms_for room n t.mode ev ls ≡ false → Settles room n (Ok (ev, v)) t (Stopped NoRoom) xs ls w xs ls w
  settled_not r =
      record {
        comes = λ G p q k b at at' st ins. (b, settles_all p q k b G.bytes₀ G.lengths₀ st.holds G.places false r, st.holds);
        table = refl;
      }
