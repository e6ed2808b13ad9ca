-- Each effect, done in the lent bytes, from what its parts say. Assumes nothing.
use mathlib.Core.Path.{◌≡◌, refl, sym, ap, ◌∙◌, subst}
use mathlib.Core.Bool.{Bool, true, false, cond}
use mathlib.Core.List.{List}
use mathlib.Core.Option.{none, some}
use Rattle.std.specs.Prelude.{Result, Ok, Err}
use Rattle.values.specs.declared.value.Value.{Value}
use Prim.Native.Nat.{ℕ}
use lib.IntN.{ℤ, pos}
use lib.ListN.{take}
use Rattle.limits.specs.Limits.{max_parties}
use Rattle.parties.specs.Sets.{member}
use Rattle.parties.specs.declared.sets.PartySet.{PartySet}
use Rattle.values.specs.declared.value.Value.TheVariants.{Clear}
use Rattle.program.specs.Check.{Program, node_at}
use Rattle.nodes.specs.declared.Node.{Node}
use Rattle.records.specs.Events.{written}
use Rattle.records.specs.declared.events.Event.{Event}
use Rattle.records.specs.declared.events.Event.TheVariants.{Wrote}
use Rattle.refusals.specs.Numbers.{no_room}
use Rattle.refusals.specs.declared.Refusal.{Refusal}
use Rattle.rules.specs.Books.{Book, Books, handed, event_of, event_for, room_for, add, note}
use Rattle.rules.specs.Moves.{move}
use Rattle.rules.specs.Rules.{rule}
use Rattle.rules.specs.declared.effects.View.TheVariants.{Whole}
use Rattle.rules.specs.declared.effects.Effect.{Effect}
use Rattle.rules.specs.Single.{Single, stopped, all_of, note_all, arrive, settle_all, perform, step}
use Rattle.rules.specs.declared.effects.Move.{Move}
use Rattle.rules.specs.declared.effects.Meeting.{Meeting}
use Rattle.rules.specs.declared.effects.Offer.TheVariants.{Secret}
use Rattle.rules.specs.declared.effects.Effect.TheVariants.{Refuse, Goes, Writes, Meets}
use Rattle.invariants.proofs.AllOfLaws.{all_by}
use Rattle.invariants.proofs.BookLaws.{none_taken}
use Rattle.area.specs.Levels.{table_size, control_of, names_at}
use Rattle.table.specs.Table.{PlacesIn, node_by}
use Rattle.table.proofs.TableLaws.{node_by_lem}
use Rattle.area.specs.declared.stand.Stand.{Stand}
use Rattle.area.specs.declared.stand.Next.TheVariants as Next'
use Rattle.advance.specs.Advances.{Advances}
use Rattle.advance.specs.declared.Advanced.TheVariants as Advanced'
use Rattle.inputs.specs.Inputs.{InputsHold}
use Rattle.single_step.specs.Steps.{Lists, Given, Stands, Comes, Moved, entered, EntryOf, Settles, StepsOn}
use Rattle.single_step.specs.declared.Stepped.{Stepped}
use Rattle.single_step.specs.declared.Stepped.TheVariants.{On}
use Rattle.single_step.proofs.StepLaws.{arrives_on, moved_by}
use Rattle.ledger.proofs.RowLaws.{holds_same}
use Rattle.inputs.proofs.InputLaws.{inputs_same}

-- ---- an effect that notes nothing

noted_none : (m : PartySet) (b : Books) (P : ℕ) → note_all m none b P ≡ b P
unfolding note_all note
noted_none m b P = go (member P m)
  where
    go : (t : Bool) → cond t (b P) (b P) ≡ b P
    go true = refl
    go false = refl

all_free : (n : ℕ) (m : PartySet) (R : ℕ) (b : Books) → all_of n m (λ P. room_for R P none (b P)) ≡ true
unfolding room_for
all_free n m R b = all_by m (λ P. room_for R P none (b P)) n (λ P l i. refl)

stands_none : {room n : ℕ} (G : Given room n) (m : PartySet) (b : Books) (l : Lists) (at : List ℕ) → at ≡ l.at → Stands G b l
    → Stands G (note_all m none b) (record { bytes = l.bytes; lengths = l.lengths; work = l.work; at = at })
stands_none {room} {n} G m b l at e st =
    record {
      holds = holds_same room n b (note_all m none b) G.bytes₀ G.lengths₀ l.bytes l.lengths st.holds (λ P h. ap (λ (x : Book). written x.events) (noted_none m b P));
      fits = λ P h. rw (noted_none m b P) (st.fits P h);
      inputs = λ P h. rw (noted_none m b P, e) (st.inputs P h);
    }

-- ---- an event that takes no input

all_keep : (ev : Event) → ((P : ℕ) (b : Book) → (note P (some ev) b).inputs ≡ b.inputs) → (m : PartySet) (b : Books) (P : ℕ) → (note_all m (some ev) b P).inputs ≡ (b P).inputs
unfolding note_all
all_keep ev keeps m b P = go (member P m)
  where
    go : (t : Bool) → (cond t (note P (some ev) (b P)) (b P)).inputs ≡ (b P).inputs
    go true = keeps P (b P)
    go false = refl

write_free : (i : ℤ) (m : PartySet) (b : Books) (P : ℕ) → (note_all m (some (Wrote i)) b P).inputs ≡ (b P).inputs
unfolding note event_for add
write_free i = all_keep (Wrote i) (λ P b. refl)

meeting_free : (mt : Meeting) (i : ℤ) (m : PartySet) (b : Books) (P : ℕ) → (note_all m (some (event_of mt i)) b P).inputs ≡ (b P).inputs
meeting_free mt i = all_keep (event_of mt i) (λ P b. none_taken P mt i b)

-- ---- what each effect but a move and a READ comes to

module _ (is : List ℤ) (end at : List ℕ) (m : PartySet) where
  pub refuses : (r : Refusal) → EntryOf is end (Refuse r) m (Err r) at at
  unfolding perform
  refuses r = record { comes = λ S k c b q h. refl; inputs = λ b h. h }

  -- an event other than a read is noted, and takes no input
  still_to_come : (ev : Event) → ((m : PartySet) (b : Books) (P : ℕ) → (note_all m (some ev) b P).inputs ≡ (b P).inputs) → (b : Books) → InputsHold max_parties is at end b
      → InputsHold max_parties is at end (note_all m (some ev) b)
  still_to_come ev free b h = inputs_same max_parties is at end b (note_all m (some ev) b) h (λ Q l. free m b Q)

  pub writes : (i : ℤ) → EntryOf is end (Writes i) m (Ok (Wrote i, Clear (pos 0) m)) at at
  unfolding perform
  writes i = record { comes = λ S k c b q h. rw q; inputs = still_to_come (Wrote i) (write_free i) }

  pub meets : (mt : Meeting) (i : ℤ) (h : PartySet) → EntryOf is end (Meets mt (Secret i h)) m (Ok (event_of mt i, handed mt i)) at at
  unfolding perform
  meets mt i h = record { comes = λ S k c b q held. refl; inputs = still_to_come (event_of mt i) (meeting_free mt i) }

-- ---- an effect is done
pub record Performs (room n : ℕ) (is : List ℤ) (end : List ℕ) (effect : Effect) (t : Stand) (y : Stepped) (l l' : Lists) : Type 0 where
  pub comes : (G : Given room n) → G.inputs ≡ is → G.end ≡ end → (p : Program) → p.parties ≡ n → (k : ℕ) (b : Books) → Stands G b l
      → Comes y G k t.node (perform (record { program = p; room = room }) k (control_of t l.work) b effect) l'
  pub table : take table_size l'.work ≡ take table_size l.work

module _ (room n : ℕ) (is : List ℤ) (end : List ℕ) (t : Stand) (y : Stepped) (l l' : Lists) where
  -- a move: nothing is noted
  pub goes : (mv : Move) → l'.at ≡ l.at → Moved room n mv t y l.bytes l.lengths l.work l'.bytes l'.lengths l'.work → Performs room n is end (Goes mv) t y l l'
  unfolding perform control_of settle_all
  goes mv ea d =
      record {
        comes = λ G ei ee p q k b st.
            subst (λ (z : Bool). Comes y G k t.node (cond z (arrive k t.node (move mv (control_of t l.work)) (note_all t.mode none b)) (stopped k no_room t.node b)) l')
            (sym (all_free p.parties t.mode room b))
            (d.comes G k (note_all t.mode none b) l'.at (stands_none G t.mode b l l'.at ea st));
        table = d.table;
      }

  -- any other effect: its entry is made
  pub enters : (effect : Effect) (entry : Result (Event × Value) Refusal) → EntryOf is end effect t.mode entry l.at l'.at
      → Settles room n entry t y l.bytes l.lengths l.work l'.bytes l'.lengths l'.work → Performs room n is end effect t y l l'
  unfolding control_of
  enters effect entry told s =
      record {
        comes = λ G ei ee p q k b st.
            let held : InputsHold max_parties is l.at end b = rw (← ei, ← ee) st.inputs in
            let left : InputsHold max_parties G.inputs l'.at G.end (entered entry t.mode b) = rw (ei, ee) (told.inputs b held) in
            subst (λ (z : Single). Comes y G k t.node z l') (sym (told.comes (record { program = p; room = room }) k (control_of t l.work) b refl held))
            (s.comes G p q k b l.at l'.at st left);
        table = s.table;
      }

-- ---- a step is what the rule of the node asks for, done
pub steps_on : (bs : List ℕ) (nodes room n : ℕ) (is : List ℤ) (end : List ℕ) (t : Stand) (y : Stepped) (l l' : Lists) (effect : Effect)
    → effect ≡ rule Whole (node_by bs nodes l.work t.node) t.mode (names_at l.work t.depth.frames) → Performs room n is end effect t y l l' → StepsOn bs nodes room n is end t y l l'
unfolding step control_of
steps_on bs nodes room n is end t y l l' effect e d =
    record {
      comes = λ G ei ee p g q len places k b st.
          let here : node_by bs nodes l.work t.node ≡ node_at p t.node
          = ap (λ (j : ℕ). node_by bs j l.work t.node) (sym len) ∙ node_by_lem bs p l.work t.node g (subst (λ (j : ℕ). PlacesIn bs j l.work) (sym len) places) in
          subst (λ (x : Effect). Comes y G k t.node (perform (record { program = p; room = room }) k (control_of t l.work) b x) l')
          (e ∙ ap (λ (x : Node). rule Whole x t.mode (names_at l.work t.depth.frames)) here)
          (d.comes G ei ee p q k b st);
      table = d.table;
    }

-- a move that leads on is a step
pub move_steps : (bs : List ℕ) (nodes room n : ℕ) (is : List ℤ) (end : List ℕ) (t u : Stand) (xs ls at w v : List ℕ) → Advances Whole bs nodes t (Advanced'.Moved (Next'.On u)) w v
    → StepsOn bs nodes room n is end t (On u) (record { bytes = xs; lengths = ls; work = w; at = at }) (record { bytes = xs; lengths = ls; work = v; at = at })
move_steps bs nodes room n is end t u xs ls at w v a =
    let (mv, asked, g) = a.moved (Next'.On u) refl in
    steps_on bs nodes room n is end t (On u) _ _ (Goes mv) asked
    (goes room n is end t (On u) (record { bytes = xs; lengths = ls; work = w; at = at }) (record { bytes = xs; lengths = ls; work = v; at = at }) mv refl
    (moved_by room n mv t (Next'.On u) (On u) xs ls w xs ls v g (arrives_on room n xs ls u)))
