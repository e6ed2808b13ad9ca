pub mod Advances
pub mod Strides
