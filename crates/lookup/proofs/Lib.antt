pub mod LookupLaws
pub mod JointLaws
