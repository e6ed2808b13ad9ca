pub mod Printed
pub mod Spaces
