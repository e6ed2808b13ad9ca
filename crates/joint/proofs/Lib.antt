pub mod TurnLaws
pub mod DriveLaws
pub mod CallLaws
pub mod OneAnswer
