-- What is written is the text that was put at the start. Assumes nothing.
use Rattle.std.proofs.Common.{ℕ, List, OnOk, subst, arith}
use Rattle.std.specs.Io.KnownBytes.{Appends}
use Rattle.text.specs.TextLaws.{puts_first}
use Rattle.rehearse.proofs.print_runs.Goals as goal

pub returns : goal.returns
returns g c =
    subst
    (λ (s : List ℕ). OnOk c.write_all.result (Appends (g.W.Write.contents c.args.writer.now) (g.W.Write.contents c.write_all.new.self) s))
    (puts_first _ _ _ _ c.rehearse-end.ensures.puts (omega arith))
    c.write_all.ensures.bytes
