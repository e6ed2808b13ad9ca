-- The single run: all of a mode step at once, on whole values.
use Rattle.std.specs.Prelude.{ℕ, zero, suc, ◌+◌, Bool, true, not, ◌||◌, ◌&&◌, cond, List, [], ◌∷◌, ℤ, pos}
use Rattle.std.proofs.Math.Option.{Option, none, some}
use Rattle.parties.specs.Sets.{member, lowest}
use Rattle.parties.specs.declared.sets.PartySet.{PartySet}
use Rattle.values.specs.Values.{slice}
use Rattle.values.specs.declared.value.Value.{Value}
use Rattle.values.specs.declared.value.Value.TheVariants.{Clear}
use Rattle.program.specs.Check.{Program, node_at}
use Rattle.refusals.specs.Numbers.{number_of, wrong_value, no_input, no_room, too_deep}
use Rattle.records.specs.Events.{finished}
use Rattle.records.specs.declared.events.Event.{Event}
use Rattle.records.specs.declared.events.Event.TheVariants.{Read, Wrote}
use Rattle.rules.specs.Rules.{rule}
use Rattle.rules.specs.Moves.{Control, Next, on, ends, full, start, move}
use Rattle.rules.specs.Books.{Books, opening, handed, event_of, room_for, add, note}
use Rattle.rules.specs.declared.effects.View.TheVariants.{Whole}
use Rattle.rules.specs.declared.effects.Move.{Move}
use Rattle.rules.specs.declared.effects.Move.TheVariants.{Hand}
use Rattle.rules.specs.declared.effects.Offer.TheVariants.{Empty, Secret}
use Rattle.rules.specs.declared.effects.Effect.{Effect}
use Rattle.rules.specs.declared.effects.Effect.TheVariants.{Refuse, Goes, Reads, Writes, Meets}

-- what a run does not change: the program, and each party's record room R
pub record Setting : Type 0 where
  pub program : Program
  pub room : ℕ

-- under way, ended with a value, or stopped with a refusal at a node; after so many steps
pub data Single : Type 0 where
  going : (steps : ℕ) → Control → Books → Single
  ended : (steps : ℕ) → Value → Books → Single
  stopped : (steps refusal node : ℕ) → Books → Single

-- all of the parties below n that are in m pass a test
unfoldable pub all_of : ℕ → PartySet → (ℕ → Bool) → Bool
all_of zero m f = true
all_of (suc n) m f = (not (member n m) || f n) && all_of n m f

-- "The single run writes the same events for each member"
unfoldable pub note_all : PartySet → Option Event → Books → Books
note_all m o b = λ P. cond (member P m) (note P o (b P)) (b P)

-- "and at its end kind 6 for every party, each its slice"
unfoldable pub arrive : (steps node : ℕ) → Next → Books → Single
arrive t e (on c) b = going (t + 1) c b
arrive t e (ends v) b = ended (t + 1) v (λ P. add (finished (slice P v)) (b P))
arrive t e full b = stopped t too_deep e b

-- a step that moves control and writes, for every member or, where one lacks room, for no one
unfoldable pub settle_all : Setting → ℕ → Control → Books → Option Event → Move → Single
settle_all S t c b o mv =
    cond (all_of S.program.parties c.mode (λ P. room_for S.room P o (b P)))
    (arrive t c.node (move mv c) (note_all c.mode o b))
    (stopped t no_room c.node b)

-- READ: the next input of the one party of the mode
unfoldable pub read_all : Setting → ℕ → Control → Books → List ℤ → Single
read_all S t c b [] = stopped t no_input c.node b
read_all S t c b (i ∷ is) = settle_all S t c b (some (Read i)) (Hand (Clear i c.mode))

-- What an effect does; a write hands back 0, where 001 hands back what was written. All checks of SHARE and REVEAL are made at once here, so
-- nobody meets with empty hands (whole_sound): that case is there for the sites, and would be a value of the wrong sort.
unfoldable pub perform : Setting → ℕ → Control → Books → Effect → Single
perform S t c b (Refuse refusal) = stopped t (number_of refusal) c.node b
perform S t c b (Goes mv) = settle_all S t c b none mv
perform S t c b Reads = read_all S t c b (b (lowest c.mode)).inputs
perform S t c b (Writes i) = settle_all S t c b (some (Wrote i)) (Hand (Clear (pos 0) c.mode))
perform S t c b (Meets mt Empty) = stopped t wrong_value c.node b
perform S t c b (Meets mt (Secret i bringers)) = settle_all S t c b (some (event_of mt i)) (Hand (handed mt i))

unfoldable pub step : Setting → Single → Single
step S (going t c b) = perform S t c b (rule Whole (node_at S.program c.node) c.mode c.names)
step S (ended t v b) = ended t v b
step S (stopped t refusal node b) = stopped t refusal node b

-- at most so many steps more
unfoldable pub run : Setting → ℕ → Single → Single
run S zero s = s
run S (suc left) (going t c b) = run S left (step S (going t c b))
run S (suc left) (ended t v b) = ended t v b
run S (suc left) (stopped t refusal node b) = stopped t refusal node b

-- the state after `budget` steps, or where it ended or stopped before
unfoldable pub after : Setting → (ℕ → List ℤ) → ℕ → Single
after S inputs budget = run S budget (going 0 (start S.program) (opening inputs))
