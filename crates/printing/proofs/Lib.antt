pub mod LineLaws
pub mod AnswerLaws
pub mod ShownLaws
