pub mod Limits
pub mod Depths
