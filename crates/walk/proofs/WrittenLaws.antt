-- A walk of what was written gives back the events. Assumes nothing.
use mathlib.Core.Path.{◌≡◌, refl, sym, ap, ap₂, ◌∙◌}
use mathlib.Core.Bool.{true}
use mathlib.Core.List.{List, [], ◌∷◌, ◌++◌, append-nil, append_assoc}
use Prim.Native.Nat.{ℕ, ◌+◌, ◌^◌, ◌≤◌, ◌<◌}
use native.Mathlib.Nat.{add-zero}
use native.Mathlib.Omega.{arith}
use lib.ListN.{length, drop, length-append}
use lib.Seq.{drop_at}
use borrow.Author.Tests.{le-leb}
use Rattle.words.specs.Words.{low_first, integer_bytes}
use Rattle.words.proofs.WordLaws.{number_in, integer_in}
use Rattle.parties.specs.SetBytes.{set_bytes, set_at}
use Rattle.parties.specs.declared.sets.PartySet.{PartySet}
use Rattle.records.specs.Events.{event_bytes, kind_of, written}
use Rattle.walk.specs.Walk.{is_event_kind, body_width, event_from, is_whole, Walked, ends, and_then, walk_from, walk}
use Rattle.walk.specs.WalkLaws.{walk_skip}
use Rattle.records.specs.Ranged.{Ranged, AllRanged}
use Rattle.records.specs.declared.events.Event.{Event}
use Rattle.records.specs.declared.events.Event.TheVariants.{Read, Wrote, Shared, Opened, Passed, Finished, Stopped}

-- an event's bytes: its kind and its body
abbrev body_of : Event → List ℕ
body_of e = drop 1 (event_bytes e)

record Parted (e : Event) : Type 0 where
  bytes : event_bytes e ≡ kind_of e ∷ body_of e
  kind : is_event_kind (kind_of e) ≡ true
  width : length (body_of e) ≡ body_width (kind_of e)

parted : (e : Event) → Parted e
unfolding event_bytes low_first body_width
parted (Read i) = record { bytes = refl; kind = refl; width = refl }
parted (Wrote i) = record { bytes = refl; kind = refl; width = refl }
parted (Shared a q) = record { bytes = refl; kind = refl; width = refl }
parted (Opened q i) = record { bytes = refl; kind = refl; width = refl }
parted (Passed q) = record { bytes = refl; kind = refl; width = refl }
parted (Finished tag i l h) = record { bytes = refl; kind = refl; width = refl }
parted (Stopped refusal node) = record { bytes = refl; kind = refl; width = refl }

-- a set's bytes among others
set_in : (q : PartySet) (before after : List ℕ) → q.bits < 2 ^ 16 → set_at (before ++ (set_bytes q ++ after)) (length before) ≡ q
set_in q before after h = ap (λ (n : ℕ). record { bits = n }) (number_in 2 q.bits before after h)

-- an event read where it was written
pub event_back : (e : Event) (after : List ℕ) → Ranged e → event_from (kind_of e) (body_of e ++ after) ≡ e
unfolding event_from event_bytes low_first
event_back (Read i) after r = ap Read (integer_in i [] after r)
event_back (Wrote i) after r = ap Wrote (integer_in i [] after r)
event_back (Shared a q) after r = ap (Shared a) (set_in q (a.index ∷ []) after r.1)
event_back (Opened q i) after r = ap₂ Opened (set_in q [] (integer_bytes i ++ after) r.0) (integer_in i (set_bytes q) after r.1)
event_back (Passed q) after r = ap Passed (set_in q [] after r)
event_back (Finished tag i l h) after r =
    rw (integer_in i (tag ∷ []) (set_bytes l ++ (set_bytes h ++ after)) r.1, set_in l (tag ∷ integer_bytes i) (set_bytes h ++ after) r.2, set_in h (tag ∷ (integer_bytes i ++ set_bytes l)) after r.3)
event_back (Stopped refusal node) after r = ap (Stopped refusal) (number_in 2 node (refusal ∷ []) after r.1)

-- the walk that has these events first
abbrev pub before : List Event → Walked → Walked
before [] w = w
before (e ∷ es) w = and_then e (before es w)

event_first : (e : Event) (place : ℕ) (rest : List ℕ) → Ranged e → walk_from place 0 (event_bytes e ++ rest) ≡ and_then e (walk_from (place + length (event_bytes e)) 0 rest)
unfolding walk_from is_whole
event_first e place rest r =
    let p = parted e in
    let l : body_width (kind_of e) ≤ length (body_of e ++ rest) = rw length-append (omega (arith, p.width)) in
    let n : place + length (kind_of e ∷ body_of e) ≡ place + 1 + body_width (kind_of e) = omega (arith, p.width) in
    rw (p.bytes, p.kind, le-leb (body_width (kind_of e)) (length (body_of e ++ rest)) l, event_back e rest r, walk_skip (place + 1) (body_width (kind_of e)) (body_of e ++ rest), drop_at (body_of e) rest (body_width (kind_of e)) p.width, n)

-- what was written is walked, and then what follows it
pub walk_on : (es : List Event) (place : ℕ) (rest : List ℕ) → AllRanged es → walk_from place 0 (written es ++ rest) ≡ before es (walk_from (place + length (written es)) 0 rest)
unfolding written
walk_on [] place rest r = rw add-zero
walk_on (e ∷ es) place rest r =
    let n : place + length (event_bytes e ++ written es) ≡ place + length (event_bytes e) + length (written es) = rw length-append (omega arith) in
    rw (append_assoc, event_first e place (written es ++ rest) r.0, n) (ap (and_then e) (walk_on es (place + length (event_bytes e)) rest r.1))

-- the events of a record are those that were written
pub walk_written : (es : List Event) → AllRanged es → walk (written es) ≡ before es ends
unfolding walk walk_from
walk_written es r = rw append-nil at (walk_on es 0 [] r)

-- so the bytes of a record tell its events
pub written_one : (es fs : List Event) → AllRanged es → AllRanged fs → written es ≡ written fs → es ≡ fs
written_one es fs r q e = same es fs (sym (walk_written es r) ∙ ap walk e ∙ walk_written fs q)
  where
    same : (es fs : List Event) → before es ends ≡ before fs ends → es ≡ fs
    same [] [] h = refl
    same [] (f ∷ fs) h = absurd (let z : ◌≡◌ {A = ℕ} 0 1 = cc in omega arith)
    same (e ∷ es) [] h = absurd (let z : ◌≡◌ {A = ℕ} 0 1 = cc in omega arith)
    same (e ∷ es) (f ∷ fs) h =
        let q : e ≡ f = cc in
        let r : es ≡ fs = same es fs (cc) in
        cc
