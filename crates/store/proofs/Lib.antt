pub mod Bits
pub mod Erased
pub mod Erasing
pub mod OnceLent
pub mod Pasting
pub mod Ranges
pub mod Sectors
pub mod WrongAnswers
