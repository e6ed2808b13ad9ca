-- `program::kinds::body_of` meets its contract. Assumes nothing.
use Prim.Native.Nat.{zero-le}
use mathlib.Core.Path.{refl}
use Rattle.nodes.specs.Nodes.{body_length}
use Rattle.program.specs.Kinds.{body_of, rule_of}
use Rattle.program.specs.declared.kinds.Rule.TheVariants.{OneName, Parts}
use Rattle.std.proofs.Common.{Some, None}
use Rattle.nodes.specs.RangeLaws.{above}
use Rattle.program.proofs.KindLaws.{key, arm, past}
use Rattle.program.proofs.kinds.body_of.Goals as goal

pub returns-in-1 : goal.returns-in-1
unfolding body_of body_length rule_of
returns-in-1 c = key 1 c.in-1.is

pub returns-in-2 : goal.returns-in-2
unfolding body_of body_length rule_of
returns-in-2 c = key 2 c.in-2.is

pub returns-in-3 : goal.returns-in-3
unfolding body_of body_length rule_of
returns-in-3 c = key 3 c.in-3.is

pub returns-in-4 : goal.returns-in-4
unfolding body_of body_length rule_of
returns-in-4 c = key 4 c.in-4.is

pub returns-in-5 : goal.returns-in-5
unfolding body_of body_length rule_of
returns-in-5 c = key 5 c.in-5.is

pub returns-in-8 : goal.returns-in-8
unfolding body_of body_length rule_of
returns-in-8 c = key 8 c.in-8.is

pub returns-in-9 : goal.returns-in-9
unfolding body_of body_length rule_of
returns-in-9 c = key 9 c.in-9.is

pub returns-in-12 : goal.returns-in-12
unfolding body_of body_length rule_of
returns-in-12 c = key 12 c.in-12.is

pub returns-in-13 : goal.returns-in-13
unfolding body_of body_length rule_of
returns-in-13 c = key 13 c.in-13.is

pub returns-in-6-to-7 : goal.returns-in-6-to-7
unfolding body_of body_length rule_of
returns-in-6-to-7 c = arm (Some (1, OneName)) 6 2 (refl, (refl, tt)) (above 5 (above 4 (above 3 (above 2 (above 1 c.in-6-to-7.if-kind-lt1-own.false c.in-6-to-7.in_default-own.rest.0.0.0.0.0.0.0.0.1) c.in-6-to-7.in_default-own.rest.0.0.0.0.0.0.0.1) c.in-6-to-7.in_default-own.rest.0.0.0.0.0.0.1) c.in-6-to-7.in_default-own.rest.0.0.0.0.0.1) c.in-6-to-7.in_default-own.rest.0.0.0.0.1) c.in-6-to-7.if-kind-lt8-own.true

pub returns-in-10-to-11 : goal.returns-in-10-to-11
unfolding body_of body_length rule_of
returns-in-10-to-11 c = arm (Some (5, Parts)) 10 2 (refl, (refl, tt)) (above 9 (above 8 c.in-10-to-11.if-kind-lt8-own.false c.in-10-to-11.in_default-own.rest.0.0.0.1) c.in-10-to-11.in_default-own.rest.0.0.1) c.in-10-to-11.if-kind-lt12-own.true

pub returns-in_default : goal.returns-in_default
unfolding body_of body_length rule_of
returns-in_default c = arm None 0 1 (refl, tt) zero-le c.in_default.if-kind-lt1-own.true

pub returns-in_default-2 : goal.returns-in_default-2
returns-in_default-2 c = past (above 13 (above 12 c.in_default.if-kind-lt12-own.false c.in_default.in_default-own.rest.0.1) c.in_default.in_default-own.rest.1)
