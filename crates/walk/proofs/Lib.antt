pub mod StepLaws
pub mod WrittenLaws
