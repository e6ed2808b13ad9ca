pub mod BitLaws
pub mod LoopLaws
