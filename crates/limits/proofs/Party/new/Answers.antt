-- `limits::Party::new` meets its contract. Assumes nothing.
use borrow.Author.Tests.{lt-ltb, le-ltb}
use Rattle.limits.proofs.Party.new.Goals as goal

pub returns-then-i-lt-MAX : goal.returns-then-i-lt-MAX
returns-then-i-lt-MAX c = simp (lt-ltb _ _ c.if-i-n.true, lt-ltb _ _ c.if-i-lt-MAX.true)

pub returns-else-i-lt-MAX : goal.returns-else-i-lt-MAX
returns-else-i-lt-MAX c = simp (lt-ltb _ _ c.if-i-n.true, le-ltb _ _ c.if-i-lt-MAX.false)

pub returns-else-i-n : goal.returns-else-i-n
returns-else-i-n c = simp (le-ltb _ _ c.if-i-n.false)
