pub mod Made
pub mod Tagging
pub mod Tags
