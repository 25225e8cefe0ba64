pub mod Whole
pub mod WrongAnswers
