-- What a head lends is within the places, and what is written is the text that was put at the start. Assumes nothing.
use Rattle.std.proofs.Common.{ℕ, List, OnOk, ◌∙◌, subst, arith}
use Rattle.std.specs.Io.KnownBytes.{Appends}
use Rattle.text.specs.TextLaws.{puts_first}
use Rattle.cases.proofs.LendingLaws.{capped}
use Rattle.vectors.proofs.PrintedLaws.{headed}
use Rattle.vectors.proofs.print_case.Goals as goal

pub rehearse-end-requires : goal.rehearse-end-requires
rehearse-end-requires g c =
    let w = capped _ _ c.lending_of-lending.ensures in
    record { capped = w; records = omega arith; lengths = omega arith; single = omega arith; joint = omega arith; room = omega arith }

pub returns : goal.returns
returns g c =
    subst
    (λ (s : List ℕ). OnOk c.write_all-2.result (Appends (g.W.Write.contents c.args.writer.now) (g.W.Write.contents c.write_all-2.new.self) s))
    (puts_first _ _ _ _ c.rehearse-end.ensures.puts (omega arith) ∙ headed c.args.case.now _ c.lending_of-lending.ensures (omega arith))
    c.write_all-2.ensures.bytes
