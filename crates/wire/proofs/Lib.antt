pub mod BlockTheorems
pub mod Closing
pub mod FrameFlips
pub mod FrameTheorems
pub mod InBytes
pub mod Told
pub mod WrongAnswers
