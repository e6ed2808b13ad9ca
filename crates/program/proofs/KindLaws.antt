-- What the kind byte fixes: laws for the arms of the `match` on it. Assumes nothing.
use mathlib.Core.Path.{◌≡◌, sym, ap}
use Prim.Native.Nat.{ℕ, ◌+◌, ◌≤◌, ◌<◌}
use native.Mathlib.Omega.{arith}
use borrow.Author.Tests.{le-leb, lt-leb}
use Rattle.program.specs.Kinds.{body_of}
use Rattle.program.specs.declared.kinds.Rule.{Rule}
use Rattle.std.proofs.Common.{Option, None}
use Rattle.nodes.specs.RangeLaws.{Each, among}

pub key : (n : ℕ) {k : ℕ} → k ≡ n → body_of n ≡ body_of k
key n e = ap body_of (sym e)

pub arm : (b : Option (ℕ × Rule)) (lo n : ℕ) {k : ℕ} → Each (λ j. b ≡ body_of j) lo n → lo ≤ k → k < lo + n → b ≡ body_of k
arm b lo n {k} a h l = among (λ j. b ≡ body_of j) lo n k a h l

pub past : {k : ℕ} → 14 ≤ k → None ≡ body_of k
unfolding body_of
past {k} h = rw (le-leb 1 k (omega arith), lt-leb k 13 h)
