pub mod EraseTheorems
pub mod TagTheorems
