pub mod Ledger
pub mod Writes
