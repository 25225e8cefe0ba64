pub mod Kept
pub mod Left
pub mod LeftBlocks
pub mod Sends
pub mod Told
pub mod WrongAnswers
