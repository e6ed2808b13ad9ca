-- `lookup::effect` meets its contract. Assumes nothing.
use mathlib.Core.Path.{sym, ap, ◌∙◌}
use mathlib.Core.List.{List}
use Rattle.limits.specs.declared.Name.{Name}
use Rattle.rules.specs.Names.{look_all}
use Rattle.area.specs.Levels.{names_at}
use Rattle.lookup.specs.Lookup.{padded, told}
use Rattle.lookup.proofs.LookupLaws.{rule_padded}
use Rattle.lookup.proofs.effect.Goals as goal

pub returns-in_default : goal.returns-in_default
returns-in_default c = let a = c.args in
    let b = names_at a.w.now a.t.depth.frames in
    rule_padded a.view a.node a.t.mode b _
    (ap told (sym c.in_default.is) ∙ c.look_all.ensures ∙ ap (λ (xs : List Name). padded (look_all a.t.mode b xs)) c.names_read.ensures)

pub returns : goal.returns
returns c = let a = c.args in
    let b = names_at a.w.now a.t.depth.frames in
    c.judge.ensures ∙ rule_padded a.view a.node a.t.mode b _
    (ap told (sym c.in-Ok.is) ∙ c.look_all.ensures ∙ ap (λ (xs : List Name). padded (look_all a.t.mode b xs)) c.names_read.ensures)
