pub mod RunLaws
pub mod DriveLaws
pub mod CallLaws
pub mod OneAnswer
