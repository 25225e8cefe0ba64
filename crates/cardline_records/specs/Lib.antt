pub mod Calls
pub mod Makes
pub mod Progress
pub mod Record
pub mod Transcript
pub mod Words
