-- `walk::width_of` meets its contract. Assumes nothing.
use native.Mathlib.Omega.{arith}
use Rattle.walk.specs.Walk.{width_of, body_width}
use Rattle.walk.proofs.StepLaws.{key, one_or_two, below_one, above_seven}
use Rattle.walk.proofs.width_of.Goals as goal

pub returns-in-3 : goal.returns-in-3
unfolding width_of body_width
returns-in-3 c = key 3 _ c.in-3.is

pub returns-in-4 : goal.returns-in-4
unfolding width_of body_width
returns-in-4 c = key 4 _ c.in-4.is

pub returns-in-5 : goal.returns-in-5
unfolding width_of body_width
returns-in-5 c = key 5 _ c.in-5.is

pub returns-in-6 : goal.returns-in-6
unfolding width_of body_width
returns-in-6 c = key 6 _ c.in-6.is

pub returns-in-7 : goal.returns-in-7
unfolding width_of body_width
returns-in-7 c = key 7 _ c.in-7.is

pub returns-in-1-to-2 : goal.returns-in-1-to-2
returns-in-1-to-2 c = one_or_two c.args.kind (omega arith) (omega arith)

pub returns-in_default : goal.returns-in_default
returns-in_default c = below_one c.args.kind (omega arith)

pub returns-in_default-2 : goal.returns-in_default-2
returns-in_default-2 c = above_seven c.args.kind (omega arith)
