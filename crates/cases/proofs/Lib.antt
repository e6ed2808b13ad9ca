pub mod RowLaws
pub mod FillLaws
pub mod InputLaws
pub mod JoinedLaws
pub mod ReadBack
pub mod OnlyWritten
pub mod LendingLaws
