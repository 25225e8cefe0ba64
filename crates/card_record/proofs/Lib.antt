pub mod WrongAnswers
pub mod WrongSends
pub mod Writes
