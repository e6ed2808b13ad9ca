-- `text::hex::put_hex`: what its loop keeps.
use lib.ListN.{take}
use Rattle.text.specs.Text.{hex, Puts}
use Rattle.text.proofs.hex.put_hex.Given as goal

abbrev pub invariant-loop-b : goal.invariant-loop-b
invariant-loop-b l = Puts (hex (take l.b-index l.bytes)) l.at l.to l.initial.out l.out
