pub mod Rows
pub mod Input
pub mod Placed
pub mod Written
pub mod Lending
