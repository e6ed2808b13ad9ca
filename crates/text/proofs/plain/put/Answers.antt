-- What stands before the word and after it is as it was. Assumes nothing.
use mathlib.Core.Path.{refl}
use mathlib.Core.List.{append_assoc}
use Prim.Native.Nat.{◌+◌}
use native.Mathlib.Omega.{arith}
use lib.ListN.{length}
use lib.Seq.{sets-eq}
use borrow.Rule.Slice.PartMut.{Post-is}
use Rattle.text.proofs.plain.put.Goals as goal

pub returns : goal.returns
returns c =
    let x = c.args.out.now in
    let at = c.args.at in
    let word = c.args.word.now in
    let after = Post-is at (at + length word) x (omega arith) in
    record { end = refl; bytes = rw (c.copy_from_slice.ensures.after, after, sets-eq word x at (omega arith), append_assoc) }
