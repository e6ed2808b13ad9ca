pub mod Nodes
pub mod RangeLaws
