-- The lines of a case of two records: its number, the walk of each, and which goes on beyond the other, in ASCII codes. Assumes nothing.
use Rattle.std.specs.Prelude.{ℕ, ◌+◌, List, ◌++◌, length}
use Rattle.records.specs.Events.{event_bytes, kind_of}
use Rattle.walk.specs.Walk.{Walked, ends, stops, and_then, walk}
use Rattle.order.specs.Order.{order_of, continued}
use Rattle.order.specs.declared.Order.{Order}
use Rattle.order.specs.declared.Order.TheVariants.{FirstLonger, SecondLonger, Equal, Neither}
use Rattle.text.specs.Text.{ascii, decimal, spaced}

-- `case I`
unfoldable pub case_line : ℕ → List ℕ
case_line number = ascii "case " ++ (decimal number ++ ascii "\n")

-- ---- the walk of a record

-- a space and two numbers with a mark between them
unfoldable pub marked : (mark : List ℕ) → ℕ → ℕ → List ℕ
marked mark x y = ascii " " ++ (decimal x ++ (mark ++ decimal y))

-- what a walk shows from the byte `start` on: KIND@START for each event, then `end`, or the refusal's number and place. An event takes as many bytes as it is written in.
unfoldable pub walk_words : (start : ℕ) → Walked → List ℕ
walk_words start ends = ascii " end"
walk_words start (stops number place) = marked (ascii " ") number place
walk_words start (and_then e rest) = marked (ascii "@") (kind_of e) start ++ walk_words (start + length (event_bytes e)) rest

unfoldable pub walk_line : List ℕ → List ℕ
walk_line xs = ascii "walk" ++ (walk_words 0 (walk xs) ++ ascii "\n")

-- ---- the order of two records
unfoldable pub order_word : Order → List ℕ
order_word FirstLonger = ascii "first longer"
order_word SecondLonger = ascii "second longer"
order_word Equal = ascii "equal"
order_word Neither = ascii "neither"

-- unless there are none, a space and the bytes in lower-case hex
unfoldable pub order_line : List ℕ → List ℕ → List ℕ
order_line xs ys = order_word (order_of xs ys) ++ (spaced (continued xs ys) ++ ascii "\n")
