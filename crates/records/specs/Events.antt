-- Document 01, "Site records": the events and their bytes.
use Rattle.std.specs.Prelude.{ℕ, ◌+◌, Bool, List, [], ◌∷◌, ◌++◌, leb, pos, length, get_or}
use Rattle.words.specs.Words.{low_first, integer_bytes}
use Rattle.parties.specs.Sets.{none}
use Rattle.parties.specs.SetBytes.{set_bytes}
use Rattle.values.specs.declared.value.Value.{Value}
use Rattle.values.specs.declared.value.Value.TheVariants.{Nothing, Clear, Share}
use Rattle.records.specs.declared.events.Event.{Event}
use Rattle.records.specs.declared.events.Event.TheVariants.{Read, Wrote, Shared, Opened, Passed, Finished, Stopped}

-- the table of kinds: the kind's byte, and the body
unfoldable pub event_bytes : Event → List ℕ
event_bytes (Read i) = 1 ∷ integer_bytes i
event_bytes (Wrote i) = 2 ∷ integer_bytes i
event_bytes (Shared a q) = 3 ∷ a.index ∷ set_bytes q
event_bytes (Opened q i) = 4 ∷ set_bytes q ++ integer_bytes i
event_bytes (Passed q) = 5 ∷ set_bytes q
event_bytes (Finished tag i l h) = 6 ∷ tag ∷ integer_bytes i ++ set_bytes l ++ set_bytes h
event_bytes (Stopped refusal node) = 7 ∷ refusal ∷ low_first 2 node

-- the kind is the first byte
abbrev pub kind_of : Event → ℕ
kind_of e = get_or (event_bytes e) 0 0

-- a record: its events, one after the other
unfoldable pub written : List Event → List ℕ
written [] = []
written (e ∷ es) = event_bytes e ++ written es

-- "Tag 0 is nothing, all else 0; 1 clear, h is 0; 2 share, with integer 0": a share's number is not shown
unfoldable pub finished : Value → Event
finished Nothing = Finished 0 (pos 0) none none
finished (Clear i l) = Finished 1 i l none
finished (Share i h l) = Finished 2 (pos 0) l h

-- the bytes that kind 6, the longest, takes, and that are held back for it or for kind 7
abbrev pub held_back : ℕ
held_back = 10

-- "An event of L bytes in kinds 1 to 5 is written only if used+L+10 is at most R"
abbrev pub fits_after : (R used L : ℕ) → Bool
fits_after R used L = leb (used + L + held_back) R

unfoldable pub has_room : (R used : ℕ) → Event → Bool
has_room R used e = fits_after R used (length (event_bytes e))
