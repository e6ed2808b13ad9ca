pub mod PlaceLaws
pub mod AnswerLaws
pub mod RunLaws
pub mod OrderLaws
pub mod NumberLaws
pub mod FieldLaws
pub mod OneAnswer
