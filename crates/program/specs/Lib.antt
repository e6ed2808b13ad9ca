pub mod Kinds
pub mod Check
pub mod Answer
pub mod Records
pub mod ScanLaws
