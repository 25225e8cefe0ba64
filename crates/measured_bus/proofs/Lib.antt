pub mod Turns
pub mod WrongAnswers
