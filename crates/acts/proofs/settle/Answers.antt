-- `acts::settle` meets its contract. Assumes nothing.
use Rattle.acts.proofs.ActLaws.{notes, lacks}
use Rattle.rules.specs.declared.effects.Move.TheVariants.{Hand}
use Rattle.acts.proofs.settle.Goals as goal

pub returns-in_default : goal.returns-in_default
returns-in_default c = let a = c.args in
    record {
      settles = λ S R. lacks a.ev (Hand a.v) a.t a.p.index a.used a.bytes.now a.area.now S R c.event_for.result c.event_for.ensures
          c.refuse.result _ _ _ (rw c.in_default.is at c.append.ensures) c.refuse.ensures;
      table = c.refuse.ensures.table;
    }

pub returns : goal.returns
returns c = let a = c.args in
    record {
      settles = λ S R. notes a.ev (Hand a.v) a.t a.p.index a.used a.bytes.now a.area.now S R c.event_for.result c.event_for.ensures
          _ _ c.hand_back.result _ _ (rw c.in-Some.is at c.append.ensures) c.hand_back.ensures;
      table = c.hand_back.ensures.table;
    }
