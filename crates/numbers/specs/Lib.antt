pub mod Integers
pub mod Sums
