-- `walk::event_at` meets its contract. Assumes nothing.
use mathlib.Core.Path.{◌≡◌}
use native.Mathlib.Omega.{arith}
use native.Mathlib.Nat.{add-zero}
use Rattle.numbers.proofs.IntegerLaws.{read32}
use Rattle.walk.specs.Walk.{body_width, event_from}
use Rattle.walk.proofs.StepLaws.{number_dropped}
use Rattle.walk.proofs.event_at.Goals as goal

pub load_integer-requires : goal.load_integer-requires
unfolding body_width
load_integer-requires c = rw c.in-1.is at c.requires.2

pub load_integer-requires-in-2 : goal.load_integer-requires-in-2
unfolding body_width
load_integer-requires-in-2 c = rw c.in-2.is at c.requires.2

pub shared_at-requires : goal.shared_at-requires
unfolding body_width
shared_at-requires c = rw c.in-3.is at c.requires.2

pub opened_at-requires : goal.opened_at-requires
unfolding body_width
opened_at-requires c = rw c.in-4.is at c.requires.2

pub load_set-requires : goal.load_set-requires
unfolding body_width
load_set-requires c = rw c.in-5.is at c.requires.2

pub finished_at-requires : goal.finished_at-requires
unfolding body_width
finished_at-requires c = rw c.in-6.is at c.requires.2

pub stopped_at-requires : goal.stopped_at-requires
unfolding body_width
stopped_at-requires c = let e : c.args.kind ≡ 7 = omega arith in
    rw e at c.requires.2

pub returns-in-1 : goal.returns-in-1
unfolding event_from
returns-in-1 c = rw (read32 _ (record { sfits = c.load_integer.type_inv }), c.load_integer.ensures, c.in-1.is) (simp (number_dropped, add-zero))

pub returns-in-2 : goal.returns-in-2
unfolding event_from
returns-in-2 c = rw (read32 _ (record { sfits = c.load_integer-in-2.type_inv }), c.load_integer-in-2.ensures, c.in-2.is) (simp (number_dropped, add-zero))

pub returns-in-3 : goal.returns-in-3
returns-in-3 c = rw c.in-3.is c.shared_at.ensures

pub returns-in-4 : goal.returns-in-4
returns-in-4 c = rw c.in-4.is c.opened_at.ensures

pub returns-in-5 : goal.returns-in-5
unfolding event_from
returns-in-5 c = rw (c.load_set.ensures, c.in-5.is) (simp (number_dropped, add-zero))

pub returns-in-6 : goal.returns-in-6
returns-in-6 c = rw c.in-6.is c.finished_at.ensures

pub returns-in_default : goal.returns-in_default
returns-in_default c = let e : c.args.kind ≡ 7 = omega arith in
    rw e c.stopped_at.ensures
