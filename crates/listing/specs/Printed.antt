-- The lines of two small records, printed: the second goes on beyond the first by a byte that begins no event. Assumes nothing.
use Rattle.std.specs.Prelude.{◌≡◌, refl, ℕ, List, [], ◌∷◌}
use Rattle.words.specs.Words.{low_first}
use Rattle.records.specs.Events.{event_bytes}
use Rattle.walk.specs.Walk.{body_width, event_from, is_whole, walk_from, walk}
use Rattle.order.specs.Order.{begins, order_of, continued}
use Rattle.text.specs.Text.{ascii, decimal_within, decimal, hex_digit, hex, spaced}
use Rattle.listing.specs.Lines.{case_line, marked, walk_words, walk_line, order_word, order_line}

pub shorter : List ℕ
shorter = 0x01 ∷ 0x07 ∷ 0x00 ∷ 0x00 ∷ 0x00 ∷ 0x05 ∷ 0x01 ∷ 0x00 ∷ []

pub longer : List ℕ
longer = 0x01 ∷ 0x07 ∷ 0x00 ∷ 0x00 ∷ 0x00 ∷ 0x05 ∷ 0x01 ∷ 0x00 ∷ 0x2a ∷ []

pub numbered : case_line 143 ≡ ascii "case 143\n"
unfolding ascii decimal_within decimal case_line
numbered = refl

pub walked : walk_line shorter ≡ ascii "walk 1@0 5@5 end\n"
unfolding shorter low_first event_bytes body_width event_from is_whole walk_from walk ascii decimal_within decimal marked walk_words walk_line
walked = refl

pub walked_refused : walk_line longer ≡ ascii "walk 1@0 5@5 12 8\n"
unfolding longer low_first event_bytes body_width event_from is_whole walk_from walk ascii decimal_within decimal marked walk_words walk_line
walked_refused = refl

pub ordered : order_line shorter longer ≡ ascii "second longer 2a\n"
unfolding shorter longer begins order_of continued ascii hex_digit hex order_word spaced order_line
ordered = refl
