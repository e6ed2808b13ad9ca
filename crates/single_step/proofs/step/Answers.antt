-- `single_step::step` meets its contract. Assumes nothing.
use borrow.Enum.Refused.{opened}
use mathlib.Core.Path.{refl, sym, subst}
use Rattle.rules.specs.declared.effects.Effect.{Effect}
use Rattle.rules.specs.declared.effects.Effect.TheVariants.{Goes}
use Rattle.rules.specs.RunLaws.{Sound, whole_sound}
use Rattle.single_step.specs.Steps.{Lists}
use Rattle.single_step.proofs.StepLaws.{moved_by}
use Rattle.single_step.proofs.PerformLaws.{goes, enters, steps_on}
use Rattle.single_step.proofs.EffectLaws.{no_move}
use Rattle.single_step.proofs.step.Goals as goal

pub entry_of-entry-requires : goal.entry_of-entry-requires
entry_of-entry-requires c = let p = c.requires in
    let f = c.far-gone in
    let m = f.result.stand.mode in
    let r = c.effect_of-effect.ensures.asks f.ensures.1 f.ensures.3 (no_move f.result.came (opened c.in_default.in_default-own.keys2)) in
    (p.5, p.6, subst (λ (x : Effect). Sound m x) (sym r.0) (whole_sound m _ _), r.1)

pub returns-in_default : goal.returns-in_default
returns-in_default c = let a = c.args in
    let f = c.far-gone.ensures in
    let u = c.far-gone.result.stand in
    let r = c.effect_of-effect.ensures.asks f.1 f.3 (no_move c.far-gone.result.came (opened c.in_default.in_default-own.keys2)) in
    let l : Lists = record { bytes = a.bytes.now; lengths = a.lengths.now; work = f.1; at = a.at.now } in
    (f.0, u, f.1, f.2, refl, steps_on a.program.now a.nodes a.room a.n a.inputs.now a.end.now u _ l _ _ r.0 (enters a.room a.n a.inputs.now a.end.now u _ l _ _ _ c.entry_of-entry.ensures (rw r.2 at c.settled-came.ensures)))

pub returns : goal.returns
returns c = let a = c.args in
    let f = c.far-gone.ensures in
    let r = f.3.moved _ c.in-Moved.is in
    let l : Lists = record { bytes = a.bytes.now; lengths = a.lengths.now; work = f.1; at = a.at.now } in
    let u = c.far-gone.result.stand in
    (f.0, u, f.1, f.2, refl, steps_on a.program.now a.nodes a.room a.n a.inputs.now a.end.now u _ l _ (Goes r.0) r.1 (goes a.room a.n a.inputs.now a.end.now u _ l _ r.0 refl (moved_by a.room a.n r.0 u _ _ a.bytes.now a.lengths.now f.1 _ _ _ r.2 c.arrive-came.ensures)))
