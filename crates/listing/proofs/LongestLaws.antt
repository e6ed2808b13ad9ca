-- For a caller: how long the lines are at most. Assumes nothing.
use mathlib.Core.Path.{◌≡◌, refl}
use mathlib.Core.Bool.{Bool, true, false, cond, and-eq-true_iff}
use Prim.Native.Nat.{ℕ, zero, suc, ◌+◌, ◌*◌, ◌-◌, ◌≤◌}
use mathlib.Core.List.{List, [], ◌∷◌}
use native.Mathlib.Omega.{arith}
use lib.ListN.{length, length-append}
use Rattle.refusals.specs.Numbers.{not_an_event}
use Rattle.records.specs.Events.{event_bytes, kind_of}
use Rattle.records.specs.EventLaws.{event_long}
use Rattle.walk.specs.Walk.{is_event_kind, body_width, event_from, is_whole, stops, and_then, walk_from, walk}
use Rattle.walk.specs.WalkLaws.{whole_fits}
use Rattle.order.specs.Order.{order_of, continued}
use Rattle.walk.proofs.StepLaws.{kind_range}
use Rattle.text.specs.Text.{ascii}
use Rattle.text.specs.TextLaws.{decimal_short, spaced_short}
use Rattle.listing.specs.Lines.{case_line, walk_words, walk_line, order_line}
use Rattle.listing.specs.Most.{most_of_case, most_of_marked, most_of_walk, most_of_order}
use Rattle.listing.proofs.LineLaws.{marked_short, word_short, continued_short}
use Rattle.listing.proofs.WalkedLaws.{of_kind}

pub case_short : (number : ℕ) → length (case_line number) ≤ most_of_case
unfolding case_line ascii
case_short number = simp length-append (omega (arith, decimal_short number))

-- a whole event's body is 2 bytes or more
body_long : (kind : ℕ) (bs : List ℕ) → is_whole kind bs ≡ true → 2 ≤ body_width kind
unfolding is_whole
body_long kind bs h =
    let r = kind_range kind ((and-eq-true_iff (is_event_kind kind) _).0 h).0 in
    omega (arith, (of_kind kind bs r.0 r.1).width, event_long (event_from kind bs))

-- where `skip` bytes of a body are still to pass
words_short : (start place skip : ℕ) (bs : List ℕ) → length (walk_words start (walk_from place skip bs)) ≤ most_of_marked + 14 * (length bs - skip)
unfolding walk_words walk_from ascii
words_short start place skip [] = omega arith
words_short start place (suc skip) (b ∷ bs) = omega (arith, words_short start (place + 1) skip bs)
words_short start place zero (kind ∷ bs) = go (is_whole kind bs) refl (λ s. words_short s (place + 1) (body_width kind) bs)
  where
    go : (t : Bool) → is_whole kind bs ≡ t
        → ((s : ℕ) → length (walk_words s (walk_from (place + 1) (body_width kind) bs)) ≤ most_of_marked + 14 * (length bs - body_width kind))
        → length (walk_words start (cond t (and_then (event_from kind bs) (walk_from (place + 1) (body_width kind) bs)) (stops not_an_event place))) ≤ most_of_marked + 14 * (suc (length bs) - 0)
    go true h f =
        rw length-append
        (omega (arith, marked_short (ascii "@") (kind_of (event_from kind bs)) start, f (start + length (event_bytes (event_from kind bs))), body_long kind bs h, whole_fits kind bs h))
    go false h f = omega (arith, marked_short (ascii " ") not_an_event place)

pub walk_short : (xs : List ℕ) → length (walk_line xs) ≤ most_of_walk xs
unfolding walk_line walk ascii
walk_short xs = simp length-append (omega (arith, words_short 0 0 0 xs))

pub order_short : (xs ys : List ℕ) → length (order_line xs ys) ≤ most_of_order xs ys
unfolding order_line ascii
order_short xs ys = simp length-append (omega (arith, word_short (order_of xs ys), spaced_short (continued xs ys), continued_short xs ys))
