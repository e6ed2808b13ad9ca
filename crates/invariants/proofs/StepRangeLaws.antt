-- A step keeps a run in range: moves, books, a site's own step and meeting, and a step of the single run. Assumes nothing.
use Rattle.std.specs.Prelude.{Some, None}
use mathlib.Core.Path.{◌≡◌}
use mathlib.Core.Bool.{Bool, true, false, cond}
use mathlib.Core.List.{List, [], ◌∷◌, ◌++◌}
use mathlib.Core.Option.{Option, none, some}
use Prim.Native.Nat.{ℕ, ◌^◌, ◌<◌}
use native.Mathlib.Omega.{arith}
use lib.Dec.{ltb}
use lib.IntN.{ℤ, pos}
use lib.ListN.{length}
use mir.Syntax.{w32}
use mir.Val.{SFits}
use Rattle.limits.specs.Limits.{max_frames, max_names}
use Rattle.parties.specs.Sets.{member, lowest}
use Rattle.limits.specs.declared.Name.{Name}
use Rattle.parties.specs.declared.sets.PartySet.{PartySet}
use Rattle.values.specs.Values.{slice}
use Rattle.cells.specs.Cells.{RangedValue}
use Rattle.cells.specs.Cells as Cells
use Rattle.values.specs.declared.value.Value.{Value}
use Rattle.values.specs.declared.value.Value.TheVariants.{Clear}
use Rattle.program.specs.Check.{node_at}
use Rattle.refusals.specs.Numbers.{number_of, no_input, no_room, too_deep, disagreement}
use Rattle.records.specs.Events.{finished}
use Rattle.records.specs.EventLaws.{finished_ranged}
use Rattle.records.specs.Ranged.{Ranged, AllRanged}
use Rattle.records.specs.declared.events.Event.{Event}
use Rattle.records.specs.declared.events.Event.TheVariants.{Read, Wrote, Shared, Opened, Passed, Finished, Stopped}
use Rattle.rules.specs.Names.{Names, none_bound, bind}
use Rattle.rules.specs.Rules.{rule}
use Rattle.rules.specs.Moves.{Frame, Control, Next, on, ends, full, hand_back, move}
use Rattle.rules.specs.Books.{Book, Books, handed, event_of, event_for, room_for, taken, add, note}
use Rattle.rules.specs.Single.{Setting, Single, going, ended, stopped, all_of, note_all, arrive, settle_all, read_all, perform, step}
use Rattle.rules.specs.Joint.{stop, land, settle, read_own, Own, acts, attends, perform_own, site, own}
use Rattle.rules.specs.declared.effects.View.TheVariants.{Whole}
use Rattle.rules.specs.declared.effects.Move.{Move}
use Rattle.rules.specs.declared.effects.Move.TheVariants.{Hand, Down, Goto, Enter, Call}
use Rattle.rules.specs.declared.effects.Meeting.{Meeting}
use Rattle.rules.specs.declared.effects.Meeting.TheVariants.{Sharing, Revealing}
use Rattle.rules.specs.declared.effects.Offer.TheVariants.{Empty, Secret}
use Rattle.rules.specs.declared.effects.Effect.{Effect}
use Rattle.rules.specs.declared.effects.Effect.TheVariants.{Refuse, Goes, Reads, Writes, Meets}
use Rattle.invariants.specs.InRange.{Every, AllIntegers, RangedNode, RangedMove, RangedMeeting, RangedEffect, RangedNames, RangedFrame, RangedControl, RangedNext, RangedBook, RangedNote, RangedSite, RangedOwn, RangedBooks, RangedSingle}
use Rattle.invariants.proofs.EveryLaws.{every_set, every_drop, every_replicate}
use Rattle.invariants.proofs.KeepLaws.{Keeps}
use Rattle.invariants.proofs.RuleRangeLaws.{slice_ranged, rule_ranged}

-- ---- moves

pub none_ranged : RangedNames none_bound
unfolding none_bound
none_ranged = every_replicate Cells.Ranged max_names None tt

bind_ranged : (x : Name) (v : Value) (b : Names) → RangedValue v → RangedNames b → RangedNames (bind x v b)
unfolding bind
bind_ranged x v b r n = every_set Cells.Ranged b x.index (Some v) n r

back_ranged : (v : Value) (fs : List Frame) → RangedValue v → Every RangedFrame fs → RangedNext (hand_back v fs)
unfolding hand_back
back_ranged v [] r e = r
back_ranged v (f ∷ fs) r e = record { node = e.0.body; mode = e.0.mode; names = bind_ranged f.name v f.names r e.0.names; frames = e.1 }

pub move_ranged : (mv : Move) (c : Control) → RangedMove mv → RangedControl c → RangedNext (move mv c)
unfolding move
move_ranged (Hand v) c r h = back_ranged v c.frames r h.frames
move_ranged (Down x e1 e2) c r h = go (ltb (length c.frames) max_frames)
  where
    go : (t : Bool)
        → RangedNext (cond t (on (record { node = e1; mode = c.mode; names = c.names; frames = record { name = x; body = e2; mode = c.mode; names = c.names } ∷ c.frames })) full)
    go true = record { node = r.0; mode = h.mode; names = h.names; frames = (record { body = r.1; mode = h.mode; names = h.names }, h.frames) }
    go false = tt
move_ranged (Goto e) c r h = record { node = r; mode = h.mode; names = h.names; frames = h.frames }
move_ranged (Enter m e) c r h = record { node = r.1; mode = r.0; names = h.names; frames = h.frames }
move_ranged (Call f v) c r h = record { node = r.0; mode = h.mode; names = bind_ranged (record { index = 0 }) v none_bound r.1 none_ranged; frames = h.frames }

-- ---- books

one_more : (e : Event) (es : List Event) → Ranged e → AllRanged es → AllRanged (es ++ e ∷ [])
one_more e [] r a = (r, tt)
one_more e (f ∷ es) r a = (a.0, one_more e es r a.1)

add_ranged : (e : Event) (b : Book) → Ranged e → RangedBook b → RangedBook (add e b)
unfolding add
add_ranged e b r h = record { inputs = every_drop (λ i. SFits w32 i) (taken e) b.inputs h.inputs; events = one_more e b.events r h.events }

for_ranged : (P : ℕ) (e : Event) → Ranged e → Ranged (event_for P e)
unfolding event_for
for_ranged P (Read i) r = r
for_ranged P (Wrote i) r = r
for_ranged P (Shared a q) r = r
for_ranged P (Opened q i) r = go (member P q)
  where
    go : (t : Bool) → Ranged (cond t (Opened q i) (Passed q))
    go true = r
    go false = r.0
for_ranged P (Passed q) r = r
for_ranged P (Finished tag i l h) r = r
for_ranged P (Stopped refusal node) r = r

note_ranged : (P : ℕ) (o : Option Event) (b : Book) → RangedNote o → RangedBook b → RangedBook (note P o b)
unfolding note
note_ranged P none b r h = h
note_ranged P (some e) b r h = add_ranged (event_for P e) b (for_ranged P e r) h

-- what a meeting hands back and writes
pub handed_ranged : (mt : Meeting) (i : ℤ) → RangedMeeting mt → SFits w32 i → RangedValue (handed mt i)
unfolding handed
handed_ranged (Sharing a q) i r h = (h, r.1, r.1)
handed_ranged (Revealing q) i r h = (h, r)

pub event_ranged : (mt : Meeting) (i : ℤ) → RangedMeeting mt → SFits w32 i → Ranged (event_of mt i)
unfolding event_of
event_ranged (Sharing a q) i r h = r
event_ranged (Revealing q) i r h = (r, h)

zero_fits : SFits w32 (pos 0)
zero_fits = record { sfits = omega arith }

-- ---- a site

module _ (S : Setting) (nodes : (e : ℕ) → RangedNode (node_at S.program e)) where
  module _ (P : ℕ) (c : Control) (b : Book) (h : RangedControl c) (g : RangedBook b) where
    stop_ranged : (refusal : ℕ) (a : Book) → refusal < 2 ^ 8 → RangedBook a → RangedSite (stop refusal c.node a)
    stop_ranged refusal a l r = add_ranged (Stopped refusal c.node) a (l, h.node) r

    land_ranged : (x : Next) (a : Book) → RangedNext x → RangedBook a → RangedSite (land c.node x a)
    unfolding land
    land_ranged (on d) a n r = (n, r)
    land_ranged (ends v) a n r = add_ranged (finished v) a (finished_ranged v n) r
    land_ranged full a n r = stop_ranged too_deep a (omega arith) r

    settle_ranged : (o : Option Event) (mv : Move) → RangedNote o → RangedMove mv → RangedSite (settle S P c b o mv)
    unfolding settle
    settle_ranged o mv n r = go (room_for S.room P o b)
      where
        go : (t : Bool) → RangedSite (cond t (land c.node (move mv c) (note P o b)) (stop no_room c.node b))
        go true = land_ranged (move mv c) (note P o b) (move_ranged mv c r h) (note_ranged P o b n g)
        go false = stop_ranged no_room b (omega arith) g

    read_ranged : (is : List ℤ) → AllIntegers is → RangedSite (read_own S P c b is)
    unfolding read_own
    read_ranged [] a = stop_ranged no_input b (omega arith) g
    read_ranged (i ∷ is) a = settle_ranged (some (Read i)) (Hand (Clear i c.mode)) a.0 (a.0, h.mode)

    perform_ranged : (e : Effect) → RangedEffect e → RangedOwn (perform_own S P c b e)
    unfolding perform_own
    perform_ranged (Refuse refusal) r = stop_ranged (number_of refusal) b r g
    perform_ranged (Goes mv) r = settle_ranged none mv tt r
    perform_ranged Reads r = read_ranged b.inputs g.inputs
    perform_ranged (Writes i) r = settle_ranged (some (Wrote i)) (Hand (Clear (pos 0) c.mode)) r (zero_fits, h.mode)
    perform_ranged (Meets mt o) r = go (room_for S.room P (some (event_of mt (pos 0))) b)
      where
        go : (t : Bool) → RangedOwn (cond t (attends mt o) (acts (stop no_room c.node b)))
        go true = r
        go false = stop_ranged no_room b (omega arith) g

    own_ranged : (o : Own) → own S P c b ≡ o → RangedOwn o
    unfolding own
    own_ranged o e =
        rw e at (perform_ranged (rule (site P) (node_at S.program c.node) c.mode c.names)
        (rule_ranged c.mode h.mode (site P) (node_at S.program c.node) c.names (nodes c.node) h.names))

  -- own steps, meetings and partings keep the sites in range, and what is brought is an integer of 32 bits
  pub ranged_kept : Keeps S (λ P s. RangedSite s) (λ i. SFits w32 i)
  ranged_kept =
      record {
        steps = λ P c b s h e. own_ranged P c b h.0 h.1 (acts s) e;
        brings = λ P c b mt i l h e. (own_ranged P c b h.0 h.1 (attends mt (Secret i l)) e).1;
        meets = λ P c b mt o i h e u.
            let r : RangedMeeting mt = (own_ranged P c b h.0 h.1 (attends mt o) e).0 in
            settle_ranged P c b h.0 h.1 (some (event_of mt i)) (Hand (slice P (handed mt i))) (event_ranged mt i r u) (slice_ranged P (handed mt i) (handed_ranged mt i r u));
        leaves = λ P c b h. stop_ranged P c b h.0 h.1 disagreement b (omega arith) h.1;
      }

  -- ---- the single run

  module _ (t : ℕ) (c : Control) (b : Books) (h : RangedControl c) (g : RangedBooks b) where
    noted_ranged : (m : PartySet) (o : Option Event) → RangedNote o → RangedBooks (note_all m o b)
    unfolding note_all
    noted_ranged m o r P = go (member P m)
      where
        go : (s : Bool) → RangedBook (cond s (note P o (b P)) (b P))
        go true = note_ranged P o (b P) r (g P)
        go false = g P

    arrive_ranged : (e : ℕ) (x : Next) (a : Books) → RangedNext x → RangedBooks a → RangedSingle (arrive t e x a)
    unfolding arrive
    arrive_ranged e (on d) a n r = (n, r)
    arrive_ranged e (ends v) a n r = λ P. add_ranged (finished (slice P v)) (a P) (finished_ranged (slice P v) (slice_ranged P v n)) (r P)
    arrive_ranged e full a n r = r

    settle_all_ranged : (o : Option Event) (mv : Move) → RangedNote o → RangedMove mv → RangedSingle (settle_all S t c b o mv)
    unfolding settle_all
    settle_all_ranged o mv n r = go (all_of S.program.parties c.mode (λ P. room_for S.room P o (b P)))
      where
        go : (s : Bool) → RangedSingle (cond s (arrive t c.node (move mv c) (note_all c.mode o b)) (stopped t no_room c.node b))
        go true = arrive_ranged c.node (move mv c) (note_all c.mode o b) (move_ranged mv c r h) (noted_ranged c.mode o n)
        go false = g

    read_all_ranged : (is : List ℤ) → AllIntegers is → RangedSingle (read_all S t c b is)
    unfolding read_all
    read_all_ranged [] a = g
    read_all_ranged (i ∷ is) a = settle_all_ranged (some (Read i)) (Hand (Clear i c.mode)) a.0 (a.0, h.mode)

    perform_all_ranged : (e : Effect) → RangedEffect e → RangedSingle (perform S t c b e)
    unfolding perform
    perform_all_ranged (Refuse refusal) r = g
    perform_all_ranged (Goes mv) r = settle_all_ranged none mv tt r
    perform_all_ranged Reads r = read_all_ranged (b (lowest c.mode)).inputs (g (lowest c.mode)).inputs
    perform_all_ranged (Writes i) r = settle_all_ranged (some (Wrote i)) (Hand (Clear (pos 0) c.mode)) r (zero_fits, h.mode)
    perform_all_ranged (Meets mt Empty) r = g
    perform_all_ranged (Meets mt (Secret i l)) r = settle_all_ranged (some (event_of mt i)) (Hand (handed mt i)) (event_ranged mt i r.0 r.1) (handed_ranged mt i r.0 r.1)

  pub step_ranged : (s : Single) → RangedSingle s → RangedSingle (step S s)
  unfolding step
  step_ranged (going t c b) h =
      perform_all_ranged t c b h.0 h.1 (rule Whole (node_at S.program c.node) c.mode c.names)
      (rule_ranged c.mode h.0.mode Whole (node_at S.program c.node) c.names (nodes c.node) h.0.names)
  step_ranged (ended t v b) h = h
  step_ranged (stopped t refusal e b) h = h
