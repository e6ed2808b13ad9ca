pub mod Order
pub mod BeginsLaws
