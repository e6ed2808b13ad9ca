pub mod MeetLaws
