-- `lookup::seek` meets its contract. Assumes nothing.
use Rattle.lookup.proofs.LookupLaws.{seek_unbound, seek_bound, seek_out}
use Rattle.lookup.proofs.seek.Goals as goal

pub returns-then-x-ge-MAX : goal.returns-then-x-ge-MAX
returns-then-x-ge-MAX c = let a = c.args in
    seek_out a.x a.m a.w.now a.depth.frames c.if-x-ge-MAX.true

pub returns-in_default : goal.returns-in_default
returns-in_default c = let a = c.args in
    seek_unbound a.x a.m a.w.now a.depth.frames _ c.if-x-ge-MAX.false (rw c.level_at-level.ensures at c.load.ensures) c.in_default.is

pub returns : goal.returns
returns c = let a = c.args in
    seek_bound a.x a.m a.w.now a.depth.frames _ _ _ c.if-x-ge-MAX.false (rw c.level_at-level.ensures at c.load.ensures) c.in-Some.is c.restrict.ensures
