-- The joint run: a site for each party, and turns. "each site has its own frames, bindings, inputs and record, and takes the same rules on its slices"
use Rattle.std.specs.Prelude.{ℕ, zero, suc, ◌+◌, Bool, true, false, not, ◌&&◌, cond, List, [], ◌∷◌, eqb, ℤ, pos}
use Rattle.std.proofs.Math.Option.{Option, none, some}
use Rattle.numbers.specs.Integers.{same_integer}
use Rattle.parties.specs.Sets.{member, same_set}
use Rattle.parties.specs.declared.sets.PartySet.{PartySet}
use Rattle.values.specs.Values.{slice}
use Rattle.values.specs.declared.value.Value.{Value}
use Rattle.values.specs.declared.value.Value.TheVariants.{Clear}
use Rattle.program.specs.Check.{node_at}
use Rattle.refusals.specs.Numbers.{number_of, no_input, no_room, too_deep, disagreement}
use Rattle.records.specs.Events.{finished}
use Rattle.records.specs.declared.events.Event.{Event}
use Rattle.records.specs.declared.events.Event.TheVariants.{Read, Wrote, Stopped}
use Rattle.rules.specs.Rules.{rule}
use Rattle.rules.specs.Moves.{Control, Next, on, ends, full, start, move}
use Rattle.rules.specs.Books.{Book, opening, handed, event_of, room_for, add, note}
use Rattle.rules.specs.Single.{Setting, all_of}
use Rattle.rules.specs.declared.effects.View.{View}
use Rattle.rules.specs.declared.effects.View.TheVariants as View'
use Rattle.rules.specs.declared.effects.Move.{Move}
use Rattle.rules.specs.declared.effects.Move.TheVariants.{Hand}
use Rattle.rules.specs.declared.effects.Meeting.{Meeting}
use Rattle.rules.specs.declared.effects.Meeting.TheVariants.{Sharing, Revealing}
use Rattle.rules.specs.declared.effects.Offer.{Offer}
use Rattle.rules.specs.declared.effects.Offer.TheVariants.{Empty, Secret}
use Rattle.rules.specs.declared.effects.Effect.{Effect}
use Rattle.rules.specs.declared.effects.Effect.TheVariants.{Refuse, Goes, Reads, Writes, Meets}

-- ---- one site

-- under way, or over: finished or stopped
pub data Site : Type 0 where
  running : Control → Book → Site
  over : (done : Bool) → Book → Site

abbrev pub finish : Value → Book → Site
finish v b = over true (add (finished v) b)

-- "stopped, joint run only"
abbrev pub stop : (refusal node : ℕ) → Book → Site
stop refusal e b = over false (add (Stopped refusal e) b)

unfoldable pub land : ℕ → Next → Book → Site
land e (on c) b = running c b
land e (ends v) b = finish v b
land e full b = stop too_deep e b

-- a step that moves control and writes; "A site's own checks include room for its own event, never for another's."
unfoldable pub settle : Setting → ℕ → Control → Book → Option Event → Move → Site
settle S P c b o mv = cond (room_for S.room P o b) (land c.node (move mv c) (note P o b)) (stop no_room c.node b)

unfoldable pub read_own : Setting → ℕ → Control → Book → List ℤ → Site
read_own S P c b [] = stop no_input c.node b
read_own S P c b (i ∷ is) = settle S P c b (some (Read i)) (Hand (Clear i c.mode))

-- what a site does by itself: it steps or stops; or it passes its own checks at a joint node, and brings what it holds
pub data Own : Type 0 where
  acts : Site → Own
  attends : Meeting → Offer → Own

unfoldable pub perform_own : Setting → ℕ → Control → Book → Effect → Own
perform_own S P c b (Refuse refusal) = acts (stop (number_of refusal) c.node b)
perform_own S P c b (Goes mv) = acts (settle S P c b none mv)
perform_own S P c b Reads = acts (read_own S P c b b.inputs)
perform_own S P c b (Writes i) = acts (settle S P c b (some (Wrote i)) (Hand (Clear (pos 0) c.mode)))
perform_own S P c b (Meets mt o) = cond (room_for S.room P (some (event_of mt (pos 0))) b) (attends mt o) (acts (stop no_room c.node b))

abbrev pub site : ℕ → View
site P = View'.Site (record { index = P })

unfoldable pub own : Setting → ℕ → Control → Book → Own
own S P c b = perform_own S P c b (rule (site P) (node_at S.program c.node) c.mode c.names)

-- ---- joint steps

abbrev pub Sites : Type 0
Sites = ℕ → Site

-- a member is away, or is there and brings something or nothing
pub data Attendance : Type 0 where
  away : Attendance
  there : Offer → Attendance

abbrev pub attending : Own → Attendance
attending (acts s) = away
attending (attends mt o) = there o

-- site P stands at the node e in mode m and passes its own checks, "whether or not it has had a turn there"
unfoldable pub attendance : Setting → ℕ → PartySet → ℕ → Site → Attendance
attendance S e m P (running c b) = cond (eqb c.node e && same_set c.mode m) (attending (own S P c b)) away
attendance S e m P (over f b) = away

abbrev pub is_there : Attendance → Bool
is_there away = false
is_there (there o) = true

-- a secret that a member of m below n brings: the highest-numbered one's, and any will do, since all have to agree
abbrev pub or_else : Attendance → Offer → Offer
or_else away r = r
or_else (there Empty) r = r
or_else (there (Secret i bringers)) r = Secret i bringers

unfoldable pub brought : ℕ → PartySet → (ℕ → Attendance) → Offer
brought zero m f = Empty
brought (suc n) m f = cond (member n m) (or_else (f n) (brought n m f)) (brought n m f)

-- "at REVEAL the sites holding a share are .. exactly its holders", and agree in holders and number
unfoldable pub agrees : ℤ → PartySet → ℕ → Attendance → Bool
agrees i h P away = false
agrees i h P (there Empty) = not (member P h)
agrees i h P (there (Secret j k)) = member P h && same_set k h && same_integer j i

unfoldable pub all_agree : Meeting → ℕ → PartySet → ℤ → PartySet → (ℕ → Attendance) → Bool
all_agree (Sharing a q) n m i h f = true
all_agree (Revealing q) n m i h f = all_of n m (λ P. agrees i h P (f P))

-- a member takes part in a meeting about the number i, and is handed its slice
unfoldable pub joins_by : Setting → ℤ → ℕ → Control → Book → Own → Site
joins_by S i P c b (acts s) = running c b
joins_by S i P c b (attends mt o) = settle S P c b (some (event_of mt i)) (Hand (slice P (handed mt i)))

unfoldable pub joins : Setting → ℤ → ℕ → Site → Site
joins S i P (running c b) = joins_by S i P c b (own S P c b)
joins S i P (over f b) = over f b

-- "all of m stop with 11 instead"
unfoldable pub parts : ℕ → Site → Site
parts P (running c b) = stop disagreement c.node b
parts P (over f b) = over f b

-- ---- turns

-- the sites after some turns, and "the number of turns at which a site stepped or stopped"
pub record Turned : Type 0 where
  pub sites : Sites
  pub count : ℕ

abbrev pub idle : Sites → Turned
idle J = record { sites = J; count = 0 }

abbrev pub counted : Sites → Turned
counted J = record { sites = J; count = 1 }

unfoldable pub put : ℕ → Site → Sites → Sites
put P s J = λ Q. cond (eqb Q P) s (J Q)

unfoldable pub put_all : PartySet → (ℕ → Site → Site) → Sites → Sites
put_all m f J = λ Q. cond (member Q m) (f Q (J Q)) (J Q)

-- "and at REVEAL some site holds the share"; at SHARE a always brings its number
unfoldable pub concluded : Setting → PartySet → Meeting → Offer → (ℕ → Attendance) → Sites → Turned
concluded S m mt Empty f J = idle J
concluded S m mt (Secret i h) f J =
    counted (cond (all_agree mt S.program.parties m i h f) (put_all m (joins S i) J) (put_all m parts J))

-- "A joint step is taken by all of m at once, when all of m stand at that node in mode m and each passes its own checks"
unfoldable pub meeting : Setting → ℕ → PartySet → Meeting → Sites → Turned
meeting S e m mt J =
    let n = S.program.parties in
    let f : ℕ → Attendance = λ P. attendance S e m P (J P) in
    cond (all_of n m (λ P. is_there (f P))) (concluded S m mt (brought n m f) f J) (idle J)

unfoldable pub turn_own : Setting → ℕ → Control → Own → Sites → Turned
turn_own S P c (acts s) J = counted (put P s J)
turn_own S P c (attends mt o) J = meeting S c.node c.mode mt J

-- "On its turn a site steps, or stops by its own check, or nothing changes: it waits, or has finished or stopped."
unfoldable pub turn_at : Setting → ℕ → Site → Sites → Turned
turn_at S P (running c b) J = turn_own S P c (own S P c b) J
turn_at S P (over f b) J = idle J

unfoldable pub turn : Setting → ℕ → Sites → Turned
turn S P J = turn_at S P (J P) J

abbrev pub also : Turned → Turned → Turned
also t u = record { sites = u.sites; count = t.count + u.count }

unfoldable pub run_turns : Setting → List ℕ → Sites → Turned
run_turns S [] J = idle J
run_turns S (P ∷ Ps) J = also (turn S P J) (run_turns S Ps (turn S P J).sites)

-- all sites at the start
unfoldable pub start_all : Setting → (ℕ → List ℤ) → Sites
start_all S inputs = λ P. running (start S.program) (opening inputs P)

-- "complete (all finished)"
abbrev pub is_finished : Site → Bool
is_finished (running c b) = false
is_finished (over done b) = done

unfoldable pub all_finished : ℕ → Sites → Bool
all_finished zero J = true
all_finished (suc n) J = is_finished (J n) && all_finished n J

abbrev pub book_of : Site → Book
book_of (running c b) = b
book_of (over f b) = b
