-- The line of a walk, event by event. Assumes nothing.
use mathlib.Core.Path.{◌≡◌, refl, sym, ◌∙◌}
use mathlib.Core.Bool.{Bool, true, false, cond, and-eq-true_iff}
use Prim.Native.Nat.{ℕ, zero, suc, ◌+◌, ◌*◌, ◌≤◌}
use mathlib.Core.List.{List, [], ◌++◌, append_assoc}
use native.Mathlib.Omega.{arith}
use lib.Dec.{leb}
use lib.ListN.{length, get_or, drop, length-append}
use Rattle.refusals.specs.Numbers.{not_an_event}
use Rattle.words.specs.Words.{low_first}
use Rattle.records.specs.Events.{event_bytes, kind_of}
use Rattle.records.specs.EventLaws.{event_long}
use Rattle.walk.specs.Walk.{is_event_kind, body_width, event_from, is_whole, event, end, refused, step_of, step_answer, walk_from, walk}
use Rattle.walk.specs.WalkLaws.{walk_steps, step_on}
use Rattle.walk.proofs.StepLaws.{kind_range}
use Rattle.records.specs.declared.events.Event.{Event}
use Rattle.text.specs.Text.{ascii, Puts}
use Rattle.text.specs.TextLaws.{puts_nothing, puts_then, puts_length}
use Rattle.listing.specs.Lines.{marked, walk_words, walk_line}
use Rattle.listing.specs.Most.{most_of_walk}
use Rattle.listing.proofs.LineLaws.{marked_short}

-- ---- the event that a step finds

-- an event read is of the kind that it was read by, and takes the width of that kind
pub record OfKind (kind : ℕ) (e : Event) : Type 0 where
  pub kinds : kind_of e ≡ kind
  pub width : length (event_bytes e) ≡ 1 + body_width kind

pub of_kind : (kind : ℕ) (bs : List ℕ) → 1 ≤ kind → kind ≤ 7 → OfKind kind (event_from kind bs)
unfolding event_from body_width event_bytes low_first
of_kind zero bs h l = absurd (omega arith)
of_kind (suc zero) bs h l = record { kinds = refl; width = refl }
of_kind (suc (suc zero)) bs h l = record { kinds = refl; width = refl }
of_kind (suc (suc (suc zero))) bs h l = record { kinds = refl; width = refl }
of_kind (suc (suc (suc (suc zero)))) bs h l = record { kinds = refl; width = refl }
of_kind (suc (suc (suc (suc (suc zero))))) bs h l = record { kinds = refl; width = refl }
of_kind (suc (suc (suc (suc (suc (suc zero)))))) bs h l = record { kinds = refl; width = refl }
of_kind (suc (suc (suc (suc (suc (suc (suc zero))))))) bs h l = record { kinds = refl; width = refl }
of_kind (suc (suc (suc (suc (suc (suc (suc (suc k)))))))) bs h l = absurd (omega arith)

-- what a step finds at a place: an event of the kind of the byte there, and as wide as it is written
pub record Found (xs : List ℕ) (at next : ℕ) (e : Event) : Type 0 where
  pub kinds : kind_of e ≡ get_or xs at 0
  pub onward : next ≡ at + length (event_bytes e)
  pub inside : next ≤ length xs

pub found : (xs : List ℕ) (at next : ℕ) (e : Event) → step_answer xs at ≡ event e next → Found xs at next e
unfolding step_answer is_whole
found xs at next e h = past (leb (length xs) at) h
  where
    kind : ℕ
    kind = get_or xs at 0

    body : List ℕ
    body = drop (at + 1) xs

    whole : (t : Bool) → is_whole kind body ≡ t → cond t (event (event_from kind body) (at + 1 + body_width kind)) (refused not_an_event at) ≡ event e next → Found xs at next e
    whole true q g =
        let r = kind_range kind ((and-eq-true_iff (is_event_kind kind) _).0 q).0 in
        let k : OfKind kind (event_from kind body) = of_kind kind body r.0 r.1 in
        let s : event_from kind body ≡ e = cc in
        let n : at + 1 + body_width kind ≡ next = cc in
        let w : OfKind kind e = rw s at k in
        record { kinds = w.kinds; onward = omega (arith, w.width); inside = (step_on xs at e next h).1 }
    whole false q g = absurd (let z : ◌≡◌ {A = ℕ} 0 1 = cc in omega arith)

    past : (t : Bool) → cond t end (step_of kind at body) ≡ event e next → Found xs at next e
    past true g = absurd (let z : ◌≡◌ {A = ℕ} 0 1 = cc in omega arith)
    past false g = whole (is_whole kind body) refl g

-- ---- the line so far

-- after the word `walk`: the text put for the events before `start`, and what is still to come of the line
pub record Shown (xs : List ℕ) (start at to : ℕ) (out out' : List ℕ) : Type 0 where
  pub text : List ℕ
  pub puts : Puts text at to out out'
  pub rest : walk_words 0 (walk xs) ≡ text ++ walk_words start (walk_from start 0 (drop start xs))
  pub short : length text ≤ 14 * start
  pub inside : start ≤ length xs

pub shown_none : (xs : List ℕ) (at : ℕ) (out : List ℕ) → Shown xs 0 at at out out
unfolding walk
shown_none xs at out = record { text = []; puts = puts_nothing; rest = refl; short = omega arith; inside = omega arith }

module _ (xs : List ℕ) (start first at to : ℕ) (out₀ out out' : List ℕ) (word : Puts (ascii "walk") first at out₀ out) (s : Shown xs start at to out out') where
  -- there is room for an event or a refusal, and for the line feed
  pub shown_room : first + most_of_walk xs ≤ length out₀ → to + 43 ≤ length out'
  unfolding ascii
  shown_room room = omega (arith, word.end, puts_length word, s.puts.end, puts_length s.puts, s.short, s.inside)

  -- one event more
  pub shown_more : (e : Event) (next to' : ℕ) (out'' : List ℕ) → event e next ≡ step_answer xs start → Puts (marked (ascii "@") (get_or xs start 0) start) to to' out' out'' → Shown xs next at to' out out''
  unfolding walk_words ascii
  shown_more e next to' out'' h p =
      let f : Found xs start next e = found xs start next e (sym h) in
      record {
        text = s.text ++ marked (ascii "@") (get_or xs start 0) start;
        puts = puts_then s.puts p;
        rest = s.rest ∙ rw (walk_steps xs start, ← h, f.kinds, ← f.onward, append_assoc);
        short = rw length-append (omega (arith, s.short, marked_short (ascii "@") (get_or xs start 0) start, f.onward, event_long e));
        inside = f.inside;
      }

  -- the last words
  shown_last : {last : List ℕ} (to' : ℕ) (out'' : List ℕ) → walk_words start (walk_from start 0 (drop start xs)) ≡ last → Puts (last ++ ascii "\n") to to' out' out'' → Puts (walk_line xs) first to' out₀ out''
  unfolding walk_line
  shown_last to' out'' e p = puts_then word (rw (s.rest, e, append_assoc) (puts_then s.puts p))

  pub shown_end : (to' : ℕ) (out'' : List ℕ) → end ≡ step_answer xs start → Puts (ascii " end\n") to to' out' out'' → Puts (walk_line xs) first to' out₀ out''
  unfolding walk_words ascii
  shown_end to' out'' h p = shown_last {last = ascii " end"} to' out'' (rw (walk_steps xs start, ← h)) p

  pub shown_refusal : (place to' to'' : ℕ) (out'' out''' : List ℕ) → refused not_an_event place ≡ step_answer xs start
      → Puts (marked (ascii " ") not_an_event place) to to' out' out'' → Puts (ascii "\n") to' to'' out'' out''' → Puts (walk_line xs) first to'' out₀ out'''
  unfolding walk_words
  shown_refusal place to' to'' out'' out''' h p q = shown_last {last = marked (ascii " ") not_an_event place} to'' out''' (rw (walk_steps xs start, ← h)) (puts_then p q)
