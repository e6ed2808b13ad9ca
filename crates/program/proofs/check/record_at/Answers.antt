-- `program::check::record_at` meets its contract. Assumes nothing.
use mathlib.Core.Path.{◌≡◌}
use mathlib.Core.Bool.{true, false}
use Prim.Native.Nat.{◌<◌}
use native.Mathlib.Omega.{arith}
use Rattle.std.proofs.Common.{rules}
use Rattle.program.proofs.RecordLaws.{body_at, found_unknown, found_cut, found_misfit, found_good}
use Rattle.program.proofs.check.record_at.Goals as goal

pub returns-in_err-length : goal.returns-in_err-length
returns-in_err-length c =
    let a = c.args in
    let h : a.own < 1024 = omega arith in
    rw c.from_residual.ensures (found_unknown a.program.now a.n a.own a.at h (body_at a.program.now a.at c.byte.ensures c.body_of.ensures c.in_err-length.was))

pub returns-then-program-at : goal.returns-then-program-at
returns-then-program-at c = let a = c.args in let h : a.own < 1024 = omega arith in found_cut a.program.now a.n a.own a.at h _ _ (body_at a.program.now a.at c.byte.ensures c.body_of.ensures c.in_ok-length.was) c.if-program-at.true

pub returns-then-fields_fit : goal.returns-then-fields_fit
returns-then-fields_fit c =
    let a = c.args in
    let h : a.own < 1024 = omega arith in
    let f : c.fields_fit.result ≡ true = search rules in
    found_good a.program.now a.n a.own a.at h _ _ (body_at a.program.now a.at c.byte.ensures c.body_of.ensures c.in_ok-length.was) c.if-program-at.false _ c.fields_fit.ensures f _ c.reach_at-reach.ensures

pub returns : goal.returns
returns c =
    let a = c.args in
    let h : a.own < 1024 = omega arith in
    let f : c.fields_fit.result ≡ false = search rules in
    found_misfit a.program.now a.n a.own a.at h _ _ (body_at a.program.now a.at c.byte.ensures c.body_of.ensures c.in_ok-length.was) c.if-program-at.false _ c.fields_fit.ensures f
