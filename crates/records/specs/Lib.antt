pub mod Events
pub mod Ranged
pub mod EventLaws
pub mod Append
pub mod AppendLaws
