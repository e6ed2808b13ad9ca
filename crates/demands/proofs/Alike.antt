-- A site with the numbers of its shares hidden: its own step is known from what is not hidden. Assumes nothing.
use Prim.Native.Nat.{ℕ}
use mathlib.Core.Path.{◌≡◌, refl, sym, ap}
use mathlib.Core.Bool.{Bool, true, false, cond}
use mathlib.Core.List.{List, [], ◌∷◌, map}
use mathlib.Core.Option.{Option, none, some}
use lib.Dec.{ltb}
use lib.IntN.{ℤ, pos}
use lib.ListN.{length, length-map}
use Rattle.limits.specs.Limits.{max_frames}
use Rattle.values.specs.declared.value.Value.{Value}
use Rattle.values.specs.declared.value.Value.TheVariants.{Nothing, Clear, Share}
use Rattle.program.specs.Check.{node_at}
use Rattle.refusals.specs.Numbers.{no_room}
use Rattle.records.specs.Events.{finished}
use Rattle.records.specs.declared.events.Event.{Event}
use Rattle.rules.specs.Rules.{rule}
use Rattle.rules.specs.Moves.{Frame, Control, Next, on, ends, full, hand_back, move}
use Rattle.rules.specs.Books.{Book, event_of, room_for, note}
use Rattle.rules.specs.Single.{Setting}
use Rattle.rules.specs.Joint.{Site, running, over, stop, land, settle, read_own, Own, acts, attends, perform_own, site, own}
use Rattle.rules.specs.declared.effects.Move.{Move}
use Rattle.rules.specs.declared.effects.Move.TheVariants.{Hand, Down, Goto, Enter, Call}
use Rattle.rules.specs.declared.effects.Offer.TheVariants.{Empty}
use Rattle.rules.specs.declared.effects.Effect.{Effect}
use Rattle.rules.specs.declared.effects.Effect.TheVariants.{Refuse, Goes, Reads, Writes, Meets}
use Rattle.invariants.specs.Changes.{on_names, on_frame}
use Rattle.invariants.specs.Sites.{events_of}
use Rattle.invariants.proofs.NameLaws.{bind_on, none_on}
use Rattle.demands.proofs.HiddenLaws.{hide, hide_move, hide_effect, rule_hide}

abbrev pub hide_control : Control → Control
hide_control c = record { node = c.node; mode = c.mode; names = on_names hide c.names; frames = map (on_frame hide) c.frames }

abbrev hide_next : Next → Next
hide_next (on c) = on (hide_control c)
hide_next (ends v) = ends (hide v)
hide_next full = full

abbrev pub hide_site : Site → Site
hide_site (running c b) = running (hide_control c) b
hide_site (over f b) = over f b

abbrev pub hide_own : Own → Own
hide_own (acts s) = acts (hide_site s)
hide_own (attends mt o) = attends mt Empty

pub hide_events : (s : Site) → events_of (hide_site s) ≡ events_of s
hide_events (running c b) = refl
hide_events (over f b) = refl

-- ---- moves

move_hide : (mv : Move) (c : Control) → move (hide_move mv) (hide_control c) ≡ hide_next (move mv c)
unfolding move hand_back
move_hide (Hand v) c = go c.frames
  where
    go : (fs : List Frame) → hand_back (hide v) (map (on_frame hide) fs) ≡ hide_next (hand_back v fs)
    go [] = refl
    go (f ∷ fs) = rw bind_on
move_hide (Down x e1 e2) c = rw (length-map c.frames (on_frame hide)) (go (ltb (length c.frames) max_frames))
  where
    d : Control
    d = record { node = e1; mode = c.mode; names = c.names; frames = record { name = x; body = e2; mode = c.mode; names = c.names } ∷ c.frames }

    go : (t : Bool) → cond t (on (hide_control d)) full ≡ hide_next (cond t (on d) full)
    go true = refl
    go false = refl
move_hide (Goto e) c = refl
move_hide (Enter m e) c = refl
move_hide (Call f v) c = rw (bind_on, none_on)

-- the last event shows no share's number
finished_hide : (v : Value) → finished (hide v) ≡ finished v
unfolding finished
finished_hide Nothing = refl
finished_hide (Clear i l) = refl
finished_hide (Share i h l) = refl

land_hide : (e : ℕ) (nx : Next) (b : Book) → land e (hide_next nx) b ≡ hide_site (land e nx b)
unfolding land
land_hide e (on c) b = refl
land_hide e (ends v) b = rw finished_hide
land_hide e full b = refl

-- ---- a site's own step

module _ (S : Setting) (P : ℕ) where
  -- what a site does by itself, as far as it is not hidden
  unfoldable pub hidden_own : Control → Book → Own
  hidden_own k b = perform_own S P k b (hide_effect (rule (site P) (node_at S.program k.node) k.mode k.names))

  module _ (c : Control) (b : Book) where
    pub settle_hide : (o : Option Event) (mv : Move) → settle S P (hide_control c) b o (hide_move mv) ≡ hide_site (settle S P c b o mv)
    unfolding settle
    settle_hide o mv = rw move_hide (go (room_for S.room P o b))
      where
        go : (t : Bool) → cond t (land c.node (hide_next (move mv c)) (note P o b)) (stop no_room c.node b)
            ≡ hide_site (cond t (land c.node (move mv c) (note P o b)) (stop no_room c.node b))
        go true = land_hide c.node (move mv c) (note P o b)
        go false = refl

    perform_hide : (e : Effect) → perform_own S P (hide_control c) b (hide_effect e) ≡ hide_own (perform_own S P c b e)
    unfolding perform_own read_own
    perform_hide (Refuse refusal) = refl
    perform_hide (Goes mv) = ap acts (settle_hide none mv)
    perform_hide Reads = go b.inputs
      where
        go : (is : List ℤ) → acts (read_own S P (hide_control c) b is) ≡ acts (hide_site (read_own S P c b is))
        go [] = refl
        go (i ∷ is) = ap acts (settle_hide _ (Hand (Clear i c.mode)))
    perform_hide (Writes i) = ap acts (settle_hide _ (Hand (Clear (pos 0) c.mode)))
    perform_hide (Meets mt o) = go (room_for S.room P (some (event_of mt (pos 0))) b)
      where
        go : (t : Bool) → cond t (attends mt Empty) (acts (stop no_room c.node b)) ≡ hide_own (cond t (attends mt o) (acts (stop no_room c.node b)))
        go true = refl
        go false = refl

    -- what is not hidden of a site's own step is known from what is not hidden of the site
    pub own_hide : hide_own (own S P c b) ≡ hidden_own (hide_control c) b
    unfolding own hidden_own
    own_hide = rw rule_hide (sym (perform_hide (rule (site P) (node_at S.program c.node) c.mode c.names)))
