pub mod Marked
pub mod Transcript
