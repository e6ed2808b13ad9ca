-- `limits::Name::new` meets its contract. Assumes nothing.
use borrow.Author.Tests.{lt-ltb, le-ltb}
use Rattle.limits.proofs.Name.new.Goals as goal

pub returns-then-x-lt-MAX : goal.returns-then-x-lt-MAX
returns-then-x-lt-MAX c = simp (lt-ltb _ _ c.if-x-lt-MAX.true)

pub returns-else-x-lt-MAX : goal.returns-else-x-lt-MAX
returns-else-x-lt-MAX c = simp (le-ltb _ _ c.if-x-lt-MAX.false)
