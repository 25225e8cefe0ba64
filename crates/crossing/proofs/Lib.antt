pub mod Crossing
pub mod WrongAnswers
