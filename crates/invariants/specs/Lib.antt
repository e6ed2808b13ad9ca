pub mod Begins
pub mod Sites
pub mod Changes
pub mod Runs
pub mod Room
pub mod Left
pub mod Accepted
pub mod InRange
