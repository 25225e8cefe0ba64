pub mod BlockLength
pub mod Heard
pub mod Leading
pub mod Made
pub mod Run
