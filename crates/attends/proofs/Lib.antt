pub mod AttendLaws
