pub mod Places
pub mod Meets
