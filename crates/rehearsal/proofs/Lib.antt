pub mod CallLaws
pub mod BothLaws
