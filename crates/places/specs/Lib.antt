pub mod Places
pub mod GoodLaws
