-- `advance::strides::far` meets its contract. Assumes nothing.
use mathlib.Core.List.{[]}
use Rattle.advance.proofs.StrideLaws.{far_some, far_did}
use Rattle.advance.proofs.strides.far.Goals as goal

pub unwrap-did-requires : goal.unwrap-did-requires
unwrap-did-requires c = let a = c.args in
    far_some a.program.now a.nodes [] 0 a.start a.most c.strides-strode.result a.w.now _ c.requires.1 c.strides-strode.ensures

pub returns : goal.returns
returns c = let a = c.args in
    far_did a.program.now a.nodes [] 0 a.start a.most c.strides-strode.result a.w.now _ c.requires.1 c.strides-strode.ensures _ c.unwrap-did.ensures
