-- A site has finished where its record ends in kind 6, and nowhere else. Assumes nothing.
use Prim.Native.Nat.{ℕ}
use mathlib.Core.Path.{◌≡◌, refl, ◌∙◌, subst}
use mathlib.Core.Bool.{Bool, true, false, cond}
use mathlib.Core.List.{List, [], ◌∷◌, ◌++◌}
use mathlib.Core.Option.{Option, none, some}
use lib.IntN.{ℤ}
use Rattle.parties.specs.Sets.{member}
use Rattle.values.specs.declared.value.Value.{Value}
use Rattle.values.specs.declared.value.Value.TheVariants.{Nothing, Clear, Share}
use Rattle.records.specs.Events.{finished}
use Rattle.refusals.specs.Numbers.{number_of, no_room}
use Rattle.records.specs.declared.events.Event.{Event}
use Rattle.records.specs.declared.events.Event.TheVariants.{Read, Wrote, Opened, Passed}
use Rattle.rules.specs.Moves.{Control, Next, on, ends, full, move}
use Rattle.rules.specs.Books.{Book, event_of, event_for, room_for, add, note}
use Rattle.rules.specs.Single.{Setting}
use Rattle.rules.specs.Joint.{Site, stop, land, settle, Own, acts, attends, read_own, perform_own, own, is_finished, start_all}
use Rattle.rules.specs.declared.effects.Move.{Move}
use Rattle.rules.specs.declared.effects.Meeting.{Meeting}
use Rattle.rules.specs.declared.effects.Meeting.TheVariants.{Sharing, Revealing}
use Rattle.rules.specs.declared.effects.Effect.{Effect}
use Rattle.rules.specs.declared.effects.Effect.TheVariants.{Refuse, Goes, Reads, Writes, Meets}
use Rattle.invariants.specs.Sites.{events_of, site_after}
use Rattle.invariants.proofs.KeepLaws.{Keeps, run_keeps}
use Rattle.demands.specs.Demand2.{is_last, has_finished}

last_added : (es : List Event) (e : Event) → has_finished (es ++ e ∷ []) ≡ is_last e
last_added [] e = refl
last_added (d ∷ []) e = refl
last_added (d ∷ f ∷ es) e = last_added (f ∷ es) e

-- what the record shows is so
abbrev Shown : ℕ → Site → Type 0
Shown P s = has_finished (events_of s) ≡ is_finished s

finished_last : (v : Value) → is_last (finished v) ≡ true
unfolding finished
finished_last Nothing = refl
finished_last (Clear i l) = refl
finished_last (Share i h l) = refl

-- an event that a step writes is not the last
abbrev NotLast : Option Event → Type 0
NotLast none = Unit {0}
NotLast (some e) = (P : ℕ) → is_last (event_for P e) ≡ false

stop_shown : (P refusal e : ℕ) (b : Book) → Shown P (stop refusal e b)
unfolding add
stop_shown P refusal e b = last_added b.events _

land_shown : (P e : ℕ) (x : Next) (b : Book) → has_finished b.events ≡ false → Shown P (land e x b)
unfolding land add
land_shown P e (on c) b h = h
land_shown P e (ends v) b h = last_added b.events (finished v) ∙ finished_last v
land_shown P e full b h = stop_shown P _ e b

note_shown : (P : ℕ) (o : Option Event) (b : Book) → NotLast o → has_finished b.events ≡ false → has_finished (note P o b).events ≡ false
unfolding note add
note_shown P none b n h = h
note_shown P (some e) b n h = last_added b.events (event_for P e) ∙ n P

settle_shown : (S : Setting) (P : ℕ) (c : Control) (b : Book) (o : Option Event) (mv : Move) → NotLast o → has_finished b.events ≡ false → Shown P (settle S P c b o mv)
unfolding settle
settle_shown S P c b o mv n h = go (room_for S.room P o b)
  where
    go : (y : Bool) → Shown P (cond y (land c.node (move mv c) (note P o b)) (stop no_room c.node b))
    go true = land_shown P c.node (move mv c) (note P o b) (note_shown P o b n h)
    go false = stop_shown P _ c.node b

meeting_on : (mt : Meeting) (i : ℤ) → NotLast (some (event_of mt i))
unfolding event_of event_for
meeting_on (Sharing a q) i P = refl
meeting_on (Revealing q) i P = go (member P q)
  where
    go : (t : Bool) → is_last (cond t (Opened q i) (Passed q)) ≡ false
    go true = refl
    go false = refl

-- of what a site does by itself
abbrev ShownOwn : ℕ → Own → Type 0
ShownOwn P (acts s) = Shown P s
ShownOwn P (attends mt o) = Unit {0}

read_shown : (S : Setting) (P : ℕ) (c : Control) (b : Book) (is : List ℤ) → has_finished b.events ≡ false → Shown P (read_own S P c b is)
unfolding read_own event_for
read_shown S P c b [] h = stop_shown P _ c.node b
read_shown S P c b (i ∷ is) h = settle_shown S P c b (some (Read i)) _ (λ Q. refl) h

own_shown : (S : Setting) (P : ℕ) (c : Control) (b : Book) (e : Effect) → has_finished b.events ≡ false → ShownOwn P (perform_own S P c b e)
unfolding perform_own event_for
own_shown S P c b (Refuse refusal) h = stop_shown P (number_of refusal) c.node b
own_shown S P c b (Goes mv) h = settle_shown S P c b none mv tt h
own_shown S P c b Reads h = read_shown S P c b b.inputs h
own_shown S P c b (Writes i) h = settle_shown S P c b (some (Wrote i)) _ (λ Q. refl) h
own_shown S P c b (Meets mt o) h = go (room_for S.room P _ b)
  where
    go : (y : Bool) → ShownOwn P (cond y (attends mt o) (acts (stop no_room c.node b)))
    go true = tt
    go false = stop_shown P _ c.node b

keeps : (S : Setting) → Keeps S Shown (λ i. Unit {0})
keeps S =
    record {
      steps = λ P c b s v q. subst (ShownOwn P) q (unfold own in own_shown S P c b _ v);
      brings = λ P c b mt i h v q. tt;
      meets = λ P c b mt o i v q n. settle_shown S P c b (some (event_of mt i)) _ (meeting_on mt i) v;
      leaves = λ P c b v. stop_shown P _ c.node b;
    }

pub shown : (S : Setting) (inputs : ℕ → List ℤ) (ts : List ℕ) (P : ℕ) → has_finished (events_of (site_after S inputs ts P)) ≡ is_finished (site_after S inputs ts P)
unfolding start_all
shown S inputs ts P = run_keeps S Shown (λ i. Unit {0}) (keeps S) ts (start_all S inputs) (λ Q. refl) P
