-- `text::hex::put_hex` meets its contract. Assumes nothing.
use native.Mathlib.Omega.{arith}
use lib.ListN.{length-set}
use Rattle.text.specs.Text.{hex}
use Rattle.text.specs.TextLaws.{puts_length, puts_nothing}
use Rattle.text.proofs.HexLaws.{hex_room, hex_more}
use Rattle.text.proofs.hex.put_hex.Goals as goal

pub loop-b-init : goal.loop-b-init
unfolding hex
loop-b-init c = puts_nothing

pub bounds-out-to : goal.bounds-out-to
bounds-out-to c =
    let p = c.loop-b.invariant in
    omega (arith, puts_length p, hex_room _ _ _ _ _ _ c.loop-b-test.true c.requires p)

pub overflow_add-out : goal.overflow_add-out
overflow_add-out c = omega (arith, hex_room _ _ _ _ _ _ c.loop-b-test.true c.requires c.loop-b.invariant)

pub bounds-out-to-in-loop-b : goal.bounds-out-to-in-loop-b
bounds-out-to-in-loop-b c =
    let p = c.loop-b.invariant in
    rw length-set (omega (arith, puts_length p, hex_room _ _ _ _ _ _ c.loop-b-test.true c.requires p))

pub overflow_add-to : goal.overflow_add-to
overflow_add-to c = omega (arith, hex_room _ _ _ _ _ _ c.loop-b-test.true c.requires c.loop-b.invariant)

pub loop-b-preserved : goal.loop-b-preserved
loop-b-preserved c = rw (c.digit.ensures, c.digit-in-loop-b.ensures) (hex_more _ _ _ _ _ _ c.loop-b-test.true c.loop-b.invariant)
