pub mod Walk
pub mod WalkLaws
