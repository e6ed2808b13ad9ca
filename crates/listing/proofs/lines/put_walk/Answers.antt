-- `listing::lines::put_walk` meets its contract. Assumes nothing.
use mathlib.Core.Path.{◌≡◌, sym, ap, ◌∙◌}
use native.Mathlib.Omega.{arith}
use Rattle.records.specs.EventLaws.{event_long}
use Rattle.walk.specs.Walk.{event, step_answer, told}
use Rattle.text.specs.Text.{ascii}
use Rattle.text.specs.TextLaws.{puts_length}
use Rattle.listing.proofs.LineLaws.{marked_short}
use Rattle.listing.proofs.WalkedLaws.{found, shown_none, shown_room, shown_more, shown_end, shown_refusal}
use Rattle.listing.proofs.lines.put_walk.Goals as goal

pub loop-next-init : goal.loop-next-init
unfolding ascii
loop-next-init c = shown_none _ _ _

pub bounds-bytes-start : goal.bounds-bytes-start
bounds-bytes-start c = let h : event c.in-Event.field-0 c.in-Event.next.at ≡ step_answer c.args.bytes.now c.loop-next.start = sym (ap told c.in-Event.is) ∙ c.event_at.ensures in
    let f = found _ _ _ _ (sym h) in
    omega (arith, f.onward, f.inside, event_long c.in-Event.field-0)

pub overflow_cast-bytes : goal.overflow_cast-bytes
overflow_cast-bytes c = omega (arith, c.shared_slice_known-in-Event-1.given c.loop-next.start)

pub put_marked-to-requires : goal.put_marked-to-requires
unfolding ascii
put_marked-to-requires c = omega (arith, shown_room _ _ _ _ _ _ _ _ c.put-to.ensures c.loop-next.invariant c.requires)

pub loop-next-smaller : goal.loop-next-smaller
loop-next-smaller c = let h : event c.in-Event.field-0 c.in-Event.next.at ≡ step_answer c.args.bytes.now c.loop-next.start = sym (ap told c.in-Event.is) ∙ c.event_at.ensures in
    let f = found _ _ _ _ (sym h) in
    omega (arith, f.onward, f.inside, event_long c.in-Event.field-0)

pub loop-next-preserved : goal.loop-next-preserved
unfolding ascii
loop-next-preserved c = shown_more _ _ _ _ _ _ _ _ c.put-to.ensures c.loop-next.invariant _ _ _ _ (sym (ap told c.in-Event.is) ∙ c.event_at.ensures) c.put_marked-to.ensures

pub put-requires : goal.put-requires
unfolding ascii
put-requires c = omega (arith, shown_room _ _ _ _ _ _ _ _ c.put-to.ensures c.loop-next.invariant c.requires)

pub returns-in-End : goal.returns-in-End
unfolding ascii
returns-in-End c = shown_end _ _ _ _ _ _ _ _ c.put-to.ensures c.loop-next.invariant _ _ (sym (ap told c.in-End.is) ∙ c.event_at.ensures) c.put.ensures

pub put_marked-end-requires : goal.put_marked-end-requires
unfolding ascii
put_marked-end-requires c = omega (arith, shown_room _ _ _ _ _ _ _ _ c.put-to.ensures c.loop-next.invariant c.requires)

pub put-requires-in-Bad : goal.put-requires-in-Bad
unfolding ascii
put-requires-in-Bad c = let p = c.put_marked-end.ensures in
    omega (arith, p.end, puts_length p, marked_short (ascii " ") 12 c.in-Bad.place, shown_room _ _ _ _ _ _ _ _ c.put-to.ensures c.loop-next.invariant c.requires)

pub returns-in-Bad : goal.returns-in-Bad
unfolding ascii
returns-in-Bad c = shown_refusal _ _ _ _ _ _ _ _ c.put-to.ensures c.loop-next.invariant _ _ _ _ _ (sym (ap told c.in-Bad.is) ∙ c.event_at.ensures) c.put_marked-end.ensures c.put-in-Bad.ensures
