pub mod RowLaws
pub mod StandLaws
pub mod ConcludeLaws
