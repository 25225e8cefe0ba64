pub mod Bytes
pub mod Lengths
pub mod Writers
pub mod WrongAnswers
