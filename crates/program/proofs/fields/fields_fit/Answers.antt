-- `program::fields::fields_fit` meets its contract. Assumes nothing.
use native.Mathlib.Nat.{add-zero}
use lib.Seq.{get_or-drop}
use Rattle.program.specs.Records.{rule_fits}
use Rattle.nodes.proofs.ReadLaws.{number_drop}
use Rattle.program.proofs.fields.fields_fit.Goals as goal

pub returns-in-Free : goal.returns-in-Free
unfolding rule_fits
returns-in-Free c = rw c.in-Free.is

pub returns-in-OneName : goal.returns-in-OneName
unfolding rule_fits
returns-in-OneName c = rw (c.in-OneName.is, c.name_fits.ensures) (simp (get_or-drop, add-zero))

pub returns-in-Operation : goal.returns-in-Operation
unfolding rule_fits
returns-in-Operation c = rw (c.in-Operation.is, c.name_fits-in-Operation-2.ensures, c.name_fits-in-Operation.ensures, c.byte.ensures) (simp (get_or-drop, add-zero))

pub returns-in-ThreeNames : goal.returns-in-ThreeNames
unfolding rule_fits
returns-in-ThreeNames c = rw (c.in-ThreeNames.is, c.name_fits-in-ThreeNames-3.ensures, c.name_fits-in-ThreeNames-2.ensures, c.name_fits-in-ThreeNames.ensures) (simp (get_or-drop, add-zero))

pub returns-in-Share : goal.returns-in-Share
unfolding rule_fits
returns-in-Share c = rw (c.in-Share.is, c.name_fits-in-Share.ensures, c.full_set.ensures, c.party_fits.ensures) (simp (get_or-drop, number_drop, add-zero))

pub returns-in-Reveal : goal.returns-in-Reveal
unfolding rule_fits
returns-in-Reveal c = rw (c.in-Reveal.is, c.name_fits-in-Reveal.ensures, c.full_set-in-Reveal.ensures) (simp (get_or-drop, number_drop, add-zero))

pub returns-in-Parts : goal.returns-in-Parts
unfolding rule_fits
returns-in-Parts c = rw (c.in-Parts.is, c.part_fits-in-Parts.ensures, c.part_fits.ensures, c.name_fits-in-Parts.ensures) (simp (get_or-drop, number_drop, add-zero))

pub returns-in-Par : goal.returns-in-Par
unfolding rule_fits
returns-in-Par c = rw (c.in-Par.is, c.part_fits-in-Par.ensures, c.within.ensures, c.set_at.ensures) (simp (number_drop, add-zero))

pub returns-in-Call : goal.returns-in-Call
unfolding rule_fits
returns-in-Call c = rw (c.in-Call.is, c.name_fits-in-Call.ensures) (simp (get_or-drop))
