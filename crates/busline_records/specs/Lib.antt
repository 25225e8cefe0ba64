pub mod Cards
pub mod Printing
pub mod Reading
pub mod Record
pub mod Transcript
