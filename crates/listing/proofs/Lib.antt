pub mod LineLaws
pub mod WalkedLaws
pub mod LongestLaws
