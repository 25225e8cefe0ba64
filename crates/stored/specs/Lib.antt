pub mod AfterReset
pub mod Changes
pub mod Locked
pub mod Opening
pub mod ReadBack
