pub mod Answers
pub mod Checks
pub mod Runs
pub mod Walks
pub mod Orders
pub mod OneAnswer
