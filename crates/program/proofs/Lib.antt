pub mod KindLaws
pub mod FieldLaws
pub mod RecordLaws
pub mod ScanSteps
pub mod CheckLaws
pub mod LostLaws
