pub mod StepLaws
pub mod ReadLaws
pub mod PerformLaws
pub mod EffectLaws
