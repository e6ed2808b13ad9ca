pub mod Attends
