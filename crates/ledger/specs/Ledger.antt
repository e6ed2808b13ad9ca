-- The parties' books as they lie in the lent bytes and lengths, and what writing does to them.
use Rattle.std.specs.Prelude.{◌≡◌, ℕ, zero, suc, ◌+◌, ◌*◌, ◌≤◌, ◌<◌, Bool, true, List, length, get_or, set}
use Rattle.std.proofs.Math.Option.{some}
use Rattle.parties.specs.declared.sets.PartySet.{PartySet}
use Rattle.values.specs.Values.{slice}
use Rattle.values.specs.declared.value.Value.{Value}
use Rattle.records.specs.Events.{finished, has_room, held_back}
use Rattle.records.specs.declared.events.Event.{Event}
use Rattle.rules.specs.Books.{Books, used, event_for, add}
use Rattle.rules.specs.Single.{all_of, note_all}
use Rattle.rules.specs.Lent.{records_left, lengths_left}

-- the bytes xs and lengths ls hold the books b of n parties, and else what xs₀ and ls₀ held
pub record Holds (R n : ℕ) (b : Books) (xs₀ ls₀ xs ls : List ℕ) : Type 0 where
  pub bytes : xs ≡ records_left n R b xs₀
  pub lengths : ls ≡ lengths_left n b ls₀

-- the first n lengths are 0
unfoldable pub none_used : ℕ → List ℕ → List ℕ
none_used zero ls = ls
none_used (suc P) ls = set (none_used P ls) P 0

-- each of n parties has room for its last event
abbrev pub Fits : (R n : ℕ) → Books → Type 0
Fits R n b = (P : ℕ) → P < n → used (b P) + held_back ≤ R

-- each member has room for what it writes of e, by the lengths
unfoldable pub rooms_for : (R n : ℕ) → PartySet → Event → List ℕ → Bool
rooms_for R n m e ls = all_of n m (λ P. has_room R (get_or ls P 0) (event_for P e))

-- each member wrote its event: whatever books the bytes held, they now hold those with the event noted
pub record NotesAll (R n : ℕ) (m : PartySet) (e : Event) (xs ls xs' ls' : List ℕ) : Type 0 where
  pub holds : (b : Books) (xs₀ ls₀ : List ℕ) → n * R ≤ length xs₀ → n ≤ length ls₀ → Holds R n b xs₀ ls₀ xs ls → Fits R n b
      → rooms_for R n m e ls ≡ true → Holds R n (note_all m (some e) b) xs₀ ls₀ xs' ls' × Fits R n (note_all m (some e) b)

-- every party wrote kind 6, each its slice
pub record FinishesAll (R n : ℕ) (v : Value) (xs ls xs' ls' : List ℕ) : Type 0 where
  pub holds : (b : Books) (xs₀ ls₀ : List ℕ) → n * R ≤ length xs₀ → n ≤ length ls₀ → Holds R n b xs₀ ls₀ xs ls → Fits R n b
      → Holds R n (λ P. add (finished (slice P v)) (b P)) xs₀ ls₀ xs' ls'
