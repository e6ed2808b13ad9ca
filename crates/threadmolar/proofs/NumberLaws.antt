-- A number is taken apart again: the answer is its low byte, the place is the rest. Assumes nothing.
use mathlib.Core.Path.{◌≡◌}
use Prim.Native.Nat.{ℕ, ◌%◌, ◌/◌, ◌<◌}
use native.Mathlib.Omega.{arith}
use Rattle.threadmolar.specs.Answers.{numbered}

pub answer_apart : (number place : ℕ) → number < 256 → numbered number place % 256 ≡ number
answer_apart number place h = omega arith

pub place_apart : (number place : ℕ) → number < 256 → numbered number place / 256 ≡ place
place_apart number place h = omega arith
