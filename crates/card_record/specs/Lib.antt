pub mod Making
pub mod Power
pub mod Record
pub mod Sending
