pub mod AloneLaws
pub mod InputLaws
pub mod MeetLaws
