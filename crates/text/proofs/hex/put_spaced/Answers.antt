-- `text::hex::put_spaced` meets its contract. Assumes nothing.
use native.Mathlib.Omega.{arith}
use Rattle.text.specs.TextLaws.{hex_length, puts_length}
use Rattle.text.proofs.HexLaws.{spaced_bytes}
use Rattle.text.proofs.hex.put_spaced.Goals as goal

pub put_hex-requires : goal.put_hex-requires
put_hex-requires c =
    let p = c.put-end.ensures in
    omega (arith, p.end, puts_length p, hex_length c.args.bytes.now)

pub returns : goal.returns
returns c = spaced_bytes _ _ _ _ _ _ _ (λ z. omega arith) c.put-end.ensures c.put_hex.ensures
