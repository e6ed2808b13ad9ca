pub mod Demand1
pub mod Rounds
pub mod Walked
pub mod Demand2
pub mod Opened
pub mod Demand3
pub mod NotEmpty
