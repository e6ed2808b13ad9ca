pub mod CellsLaws
pub mod LevelLaws
pub mod MoveLaws
pub mod RowLaws
