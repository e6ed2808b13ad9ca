pub mod Spaces
pub mod Both
pub mod Worked
