-- Two calls of one program, and the events that an accepted call's records show. Assumes nothing.
use Prim.Native.Nat.{ℕ, ◌<◌}
use mathlib.Core.Path.{◌≡◌, refl, sym, ap, ◌∙◌, subst}
use mathlib.Core.Bool.{true}
use mathlib.Core.List.{List, [], ◌∷◌}
use mathlib.Core.Option.{Option, none}
use Rattle.program.specs.Check.{Program, good, checked}
use Rattle.walk.specs.Walk.{ends}
use Rattle.records.specs.declared.events.Event.{Event}
use Rattle.walk.proofs.WrittenLaws.{before}
use Rattle.rules.specs.Lent.{Lent, room_of, counts_fit, enough_lent}
use Rattle.rules.specs.Calls.{Accepted, setting_of, joint_call}
use Rattle.invariants.specs.Accepted.{JointAccepted, joint_run}
use Rattle.invariants.specs.InRange.{AllBytes, AllIntegers}
use Rattle.invariants.specs.Left.{record_of}
use Rattle.invariants.specs.Sites.{events_of}
use Rattle.invariants.proofs.RangedLaws.{joint_call_walk}
use Rattle.demands.specs.Walked.{found, events_in}

-- equal bytes are one program
pub one_program : (bs bs' : List ℕ) (p p' : Program) → bs' ≡ bs → checked bs ≡ good p → checked bs' ≡ good p' → p' ≡ p
one_program bs bs' p p' e h h' = let q : good p' ≡ good p = sym h' ∙ ap checked e ∙ h in cc

-- and with equal room one setting
pub one_setting : (p p' : Program) (L L' : Lent) → p' ≡ p → room_of p.parties L' ≡ room_of p.parties L → setting_of p' L' ≡ setting_of p L
one_setting p p' L L' e r =
    subst (λ (q : Program). setting_of q L' ≡ setting_of p L) (sym e) (ap (λ (R : ℕ). record { program = p; room = R }) r)

-- an accepted call, with the program that its check gives
abbrev pub accepted_of : {areas : ℕ → ℕ} {first_bad : ℕ → Option ℕ} (p : Program) (L : Lent) → checked L.program ≡ good p → Accepted areas first_bad L → Accepted areas first_bad L
accepted_of {areas} {first_bad} p L h a =
    let e : a.program ≡ p = one_program L.program L.program p a.program refl h a.checks in
    record {
      program = p;
      checks = h;
      counts = subst (λ (q : Program). counts_fit q.parties L ≡ true) e a.counts;
      turns = subst (λ (q : Program). first_bad q.parties ≡ none) e a.turns;
      lent = subst (λ (q : Program). enough_lent q.parties (areas q.parties) L ≡ true) e a.lent;
    }

found_before : (es : List Event) → found (before es ends) ≡ es
found_before [] = refl
found_before (e ∷ es) = ap (λ (fs : List Event). e ∷ fs) (found_before es)

pub events_found : (L : Lent) (ts : List ℕ) → AllBytes L.program → AllIntegers L.inputs → (a : JointAccepted L ts) (P : ℕ) → P < a.program.parties
    → events_in (record_of a.program.parties P (joint_call L ts)) ≡ events_of ((joint_run a.program L ts).sites P)
events_found L ts bytes integers a P p = rw (joint_call_walk L bytes integers ts a P p) (found_before _)
