-- Demand 3 holds. Assumes nothing.
use mathlib.Core.Path.{◌≡◌, refl, sym, ap, ◌∙◌, subst}
use Rattle.program.specs.Check.{checked}
use Rattle.records.specs.Events.{written}
use Rattle.rules.specs.Lent.{inputs_of}
use Rattle.rules.specs.Single.{Setting}
use Rattle.rules.specs.Calls.{joint_call, setting_of}
use Rattle.invariants.specs.Accepted.{JointAccepted, joint_run}
use Rattle.invariants.specs.InRange.{AllBytes}
use Rattle.invariants.specs.Left.{record_of}
use Rattle.invariants.specs.Sites.{events_of, site_after}
use Rattle.invariants.proofs.AcceptedLaws.{joint_accepted, joint_record}
use Rattle.demands.specs.Walked.{events_in}
use Rattle.demands.specs.Opened.{openings, EndsIn11, Agree}
use Rattle.demands.specs.Demand3.{Demand3}
use Rattle.demands.proofs.CallLaws.{one_setting, accepted_of, events_found}
use Rattle.demands.proofs.SitesAgree.{records_agree}

pub demand_3 : Demand3
demand_3 p P L L' ts ts' h = rw (joint_record L ts a P h.party, record') agree
  where
    a : JointAccepted L ts
    a = accepted_of p L h.checks (joint_accepted L ts h.run)

    a' : JointAccepted L' ts'
    a' = accepted_of p L' (ap checked h.program ∙ h.checks) (joint_accepted L' ts' h.run')

    S : Setting
    S = setting_of p L

    events' : events_of ((joint_run p L' ts').sites P) ≡ events_of (site_after S (inputs_of L') ts' P)
    events' = ap (λ (T : Setting). events_of (site_after T (inputs_of L') ts' P)) (one_setting p p L L' refl h.room)

    found : events_in (record_of p.parties P (joint_call L ts)) ≡ events_of (site_after S (inputs_of L) ts P)
    found = events_found L ts h.bytes h.integers a P h.party

    found' : events_in (record_of p.parties P (joint_call L' ts')) ≡ events_of (site_after S (inputs_of L') ts' P)
    found' = events_found L' ts' (subst AllBytes (sym h.program) h.bytes) h.integers' a' P h.party ∙ events'

    record' : record_of p.parties P (joint_call L' ts') ≡ written (events_of (site_after S (inputs_of L') ts' P))
    record' = joint_record L' ts' a' P h.party ∙ ap written events'

    opened : Agree (openings (events_in (record_of p.parties P (joint_call L ts)))) (openings (events_in (record_of p.parties P (joint_call L' ts'))))
        → Agree (openings (events_of (site_after S (inputs_of L) ts P))) (openings (events_of (site_after S (inputs_of L') ts' P)))
    opened o = rw (found, found') at o

    agree : Agree (written (events_of (site_after S (inputs_of L) ts P))) (written (events_of (site_after S (inputs_of L') ts' P)))
    agree =
        records_agree S (inputs_of L) (inputs_of L') ts ts' P h.inputs (opened h.opened) (λ e. h.ends (subst EndsIn11 (sym found) e))
        (λ e. h.ends' (subst EndsIn11 (sym found') e))
