pub mod AdvanceLaws
pub mod StrideLaws
