pub mod Concludes
