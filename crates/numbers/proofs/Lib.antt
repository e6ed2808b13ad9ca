pub mod IntegerLaws
pub mod FitLaws
pub mod ReduceLaws
pub mod OperationLaws
