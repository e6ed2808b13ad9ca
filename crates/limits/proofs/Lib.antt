pub mod DepthLaws
